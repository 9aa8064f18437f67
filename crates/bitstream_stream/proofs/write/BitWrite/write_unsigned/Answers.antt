use Rattle.bitstream_stream.proofs.write.BitWrite.write_unsigned.Goals as goal

pub returns : goal.returns
returns g c = record { writes = rw c.BITS.ensures at c.write_unsigned_var.ensures.writes }
