use Rattle.bitstream_stream.proofs.write.BitWrite.write_signed.Goals as goal

pub returns : goal.returns
returns g c = record { writes = rw c.BITS.ensures at c.write_signed_var.ensures.writes }
