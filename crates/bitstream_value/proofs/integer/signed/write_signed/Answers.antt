use Rattle.bitstream_stream.proofs.Writing.WriteParts.{all_one}
use Rattle.bitstream_value.proofs.integer.signed.write_signed.Goals as goal

pub returns : goal.returns
returns g c = record {
  writes = all_one g.W.BitWrite.sink _ _ _ _
      (rw c.bits.ensures.value at c.write_signed_var.ensures.writes);
}
