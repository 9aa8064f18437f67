use Rattle.bitstream_stream.proofs.write.BitWrite.write_unsigned_var.Goals as goal

pub returns : goal.returns
returns g c = record { writes = rw c.unknown.ensures at c.write_unsigned_counted.ensures.writes }
