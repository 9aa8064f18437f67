use Rattle.std.proofs.Common.{arith}
use Rattle.bitstream_stream.proofs.Reading.SignedLemmas.{unsigned-below}
use Rattle.bitstream_value.proofs.NonZeroLemmas.{non_zero-stops, non_zero-was_done, next_fits}
use Rattle.bitstream_value.proofs.integer.non_zero.read_non_zero_fixed.Goals as goal

pub returns-in_err-base-clause-reads : goal.returns-in_err-base-clause-reads
returns-in_err-base-clause-reads g c =
    non_zero-stops g.N.NonZeroInteger.after _ _ _ c.requires
    c.from_residual.ensures.1 c.in_err-base.ensures.reads

pub next-requires : goal.next-requires
next-requires g c = next_fits g.B.Width.BITS _ _ c.requires (unsigned-below _ _ _ _ c.in_ok-base.ensures.reads)

pub returns-clause-reads : goal.returns-clause-reads
returns-clause-reads g c =
    non_zero-was_done g.N.NonZeroInteger.after _ _ _ _ _ c.requires
    (g.met.N.NonZeroInteger.after_law _ _ c.next.ensures) c.in_ok-base.ensures.reads

pub returns-clause-fits : goal.returns-clause-fits
returns-clause-fits g c =
    let small = unsigned-below _ _ _ _ c.in_ok-base.ensures.reads in omega (arith, c.next.ensures, small)
