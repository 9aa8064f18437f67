use Rattle.std.proofs.Common.{ap, ◌∙◌, arith}
use Rattle.bitstream_stream.proofs.Writing.WriteParts.{all_one}
use Rattle.bitstream_value.proofs.NonZeroLemmas.{writes-less, writes-wide}
use Rattle.bitstream_value.proofs.integer.non_zero.write_non_zero.Goals as goal

pub returns-then-bits-BITS_SIZE : goal.returns-then-bits-BITS_SIZE
returns-then-bits-BITS_SIZE g c = record {
  writes =
      let is = g.met.N.Base.UnsignedInteger.sub_value_law _ _ _ c.sub.ensures in
      let one = ap g.N.Base.UnsignedInteger.value c.ONE.ensures ∙ g.met.N.Base.UnsignedInteger.ONE_value_law in
      let number = c.base.ensures.value in
      writes-less g.W.BitWrite.sink _ _ _ _ _ _ _ _ (omega arith) (omega (arith, is, one, number))
      c.write_number.ensures.writes;
}

pub returns-else-bits-BITS_SIZE : goal.returns-else-bits-BITS_SIZE
returns-else-bits-BITS_SIZE g c = record {
  writes = all_one g.W.BitWrite.sink _ _ _ _ (writes-wide g.W.BitWrite.sink _ _ _ _ _ _ _ (omega arith)
      c.refuse_write.ensures.writes);
}
