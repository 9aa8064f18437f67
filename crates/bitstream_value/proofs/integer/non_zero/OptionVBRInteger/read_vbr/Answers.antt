use Rattle.bitstream_value.proofs.NonZeroLemmas.{option_vbr-stops, option_vbr-was_done, if_any-is}
use Rattle.bitstream_value.proofs.integer.non_zero.OptionVBRInteger.read_vbr.Goals as goal

pub returns-in_err-base : goal.returns-in_err-base
returns-in_err-base g c = record {
  reads = option_vbr-stops g.N.NonZeroInteger.after _ _ _ c.from_residual.ensures.1
      c.in_err-base.ensures.reads;
}

pub returns : goal.returns
returns g c = record {
  reads =
      option_vbr-was_done g.N.NonZeroInteger.after _ _ _ _ _
      (if_any-is g.N.NonZeroInteger.after g.N.NonZeroInteger.number _ _ g.met.N.NonZeroInteger.some_law
      g.met.N.NonZeroInteger.after_law c.of.ensures) c.in_ok-base.ensures.reads;
}
