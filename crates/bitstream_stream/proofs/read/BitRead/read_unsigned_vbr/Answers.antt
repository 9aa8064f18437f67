use Rattle.bitstream_stream.proofs.read.BitRead.read_unsigned_vbr.Goals as goal

pub returns : goal.returns
returns g c = record { reads = c.read_groups.ensures.reads }
