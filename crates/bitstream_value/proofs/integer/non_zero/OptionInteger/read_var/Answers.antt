use Rattle.bitstream_value.proofs.NonZeroLemmas.{option-stops, option-was_done, if_any-is}
use Rattle.bitstream_stream.proofs.Reading.SignedLemmas.{unsigned-below}
use Rattle.bitstream_value.proofs.FitsLemmas.{option-below}
use Rattle.bitstream_value.proofs.integer.non_zero.OptionInteger.read_var.Goals as goal

pub returns-in_err-base-clause-reads : goal.returns-in_err-base-clause-reads
returns-in_err-base-clause-reads g c =
    option-stops g.N.NonZeroInteger.after _ _ _ c.from_residual.ensures.1
    c.in_err-base.ensures.reads

pub returns-clause-reads : goal.returns-clause-reads
returns-clause-reads g c =
    option-was_done g.N.NonZeroInteger.after _ _ _ _ _
    (if_any-is g.N.NonZeroInteger.after g.N.NonZeroInteger.number _ _ g.met.N.NonZeroInteger.some_law
    g.met.N.NonZeroInteger.after_law c.of.ensures) c.in_ok-base.ensures.reads

pub returns-clause-fits : goal.returns-clause-fits
returns-clause-fits g c =
    option-below g.N.NonZeroInteger.number _ _ _ c.of.ensures (unsigned-below _ _ _ _ c.in_ok-base.ensures.reads)
