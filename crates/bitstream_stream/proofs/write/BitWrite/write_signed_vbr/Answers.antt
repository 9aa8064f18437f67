use Rattle.bitstream_stream.proofs.write.BitWrite.write_signed_vbr.Goals as goal

pub returns : goal.returns
returns g c = record { writes = rw c.zigzag.ensures at c.write_unsigned_vbr.ensures.writes }
