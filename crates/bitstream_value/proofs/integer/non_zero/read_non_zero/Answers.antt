use Rattle.std.proofs.Common.{arith}
use Rattle.bitstream_stream.proofs.Reading.SignedLemmas.{unsigned-below}
use Rattle.bitstream_value.proofs.FitsLemmas.{errors-fit}
use Rattle.bitstream_value.proofs.NonZeroLemmas.{non_zero-stops, non_zero-was_done, non_zero-refused, next_fits}
use Rattle.bitstream_value.proofs.integer.non_zero.read_non_zero.Goals as goal

pub returns-in_err-base-clause-reads : goal.returns-in_err-base-clause-reads
returns-in_err-base-clause-reads g c =
    non_zero-stops g.N.NonZeroInteger.after _ _ _ (omega arith)
    c.from_residual.ensures.1 c.in_err-base.ensures.reads

pub next-requires : goal.next-requires
next-requires g c = next_fits (g.C.Count.number c.args.bits) _ _ (omega arith)
    (unsigned-below _ _ _ _ c.in_ok-base.ensures.reads)

pub returns-in_ok-base-clause-reads : goal.returns-in_ok-base-clause-reads
returns-in_ok-base-clause-reads g c =
    non_zero-was_done g.N.NonZeroInteger.after _ _ _ _ _ (omega arith)
    (g.met.N.NonZeroInteger.after_law _ _ c.next.ensures) c.in_ok-base.ensures.reads

pub returns-else-bits-BITS_SIZE-clause-reads : goal.returns-else-bits-BITS_SIZE-clause-reads
returns-else-bits-BITS_SIZE-clause-reads g c =
    non_zero-refused g.N.NonZeroInteger.after _ _ _ (omega arith)
    c.refuse_read.ensures.reads

pub returns-in_ok-base-clause-fits : goal.returns-in_ok-base-clause-fits
returns-in_ok-base-clause-fits g c =
    let small = unsigned-below _ _ _ _ c.in_ok-base.ensures.reads in omega (arith, c.next.ensures, small)

pub returns-else-bits-BITS_SIZE-clause-fits : goal.returns-else-bits-BITS_SIZE-clause-fits
returns-else-bits-BITS_SIZE-clause-fits g c = errors-fit _ _ c.refuse_read.ensures.error
