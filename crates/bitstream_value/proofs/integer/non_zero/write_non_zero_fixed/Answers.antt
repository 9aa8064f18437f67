use Rattle.std.proofs.Common.{ap, ◌∙◌, arith}
use Rattle.bitstream_value.proofs.NonZeroLemmas.{writes-less}
use Rattle.bitstream_value.proofs.integer.non_zero.write_non_zero_fixed.Goals as goal

pub returns : goal.returns
returns g c = record {
  writes =
      let is = g.met.N.Base.UnsignedInteger.sub_value_law _ _ _ c.sub.ensures in
      let one = ap g.N.Base.UnsignedInteger.value c.ONE.ensures ∙ g.met.N.Base.UnsignedInteger.ONE_value_law in
      let number = c.base.ensures.value in
      writes-less g.W.BitWrite.sink _ _ _ _ _ _ _ _ c.requires (omega (arith, is, one, number))
      c.write_number_fixed.ensures.writes;
}
