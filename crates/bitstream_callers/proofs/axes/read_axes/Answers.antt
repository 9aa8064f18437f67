use Rattle.bitstream_io.specs.Callers.{IsDoneBy}
use Rattle.bitstream_io.proofs.CallerLemmas.{High, arith, and_then-enough, done-if_left, pure-enough, reads, slice_ends, unsigned-enough}
use Rattle.bitstream_callers.specs.Axes.{axes_decoder}
use Rattle.bitstream_callers.proofs.axes.read_axes.Goals as goal

axes-enough : IsDoneBy 36 axes_decoder
axes-enough =
    let one = unsigned-enough High 16 12 (omega arith) in
    and_then-enough 12 24 _ _ one (λ x. and_then-enough 12 12 _ _ one (λ y. and_then-enough 12 0 _ _ one (λ z. pure-enough _)))

pub returns-in_err-read_unsigned_var-clause-reads : goal.returns-in_err-read_unsigned_var-clause-reads
returns-in_err-read_unsigned_var-clause-reads c = search (reads, c.in_err-read_unsigned_var.ensures.reads, c.from_residual.ensures.1) depth 12

pub returns-in_err-read_unsigned_var-clause-done : goal.returns-in_err-read_unsigned_var-clause-done
returns-in_err-read_unsigned_var-clause-done c = λ fine. done-if_left 36 slice_ends fine axes-enough (returns-in_err-read_unsigned_var-clause-reads c)

pub returns-in_err-read_unsigned_var-2-clause-reads : goal.returns-in_err-read_unsigned_var-2-clause-reads
returns-in_err-read_unsigned_var-2-clause-reads c = search (reads, c.in_ok-read_unsigned_var.ensures.reads, c.in_err-read_unsigned_var-2.ensures.reads, c.from_residual-in_err-read_unsigned_var-2.ensures.1) depth 12

pub returns-in_err-read_unsigned_var-2-clause-done : goal.returns-in_err-read_unsigned_var-2-clause-done
returns-in_err-read_unsigned_var-2-clause-done c = λ fine. done-if_left 36 slice_ends fine axes-enough (returns-in_err-read_unsigned_var-2-clause-reads c)

pub returns-in_err-read_unsigned_var-3-clause-reads : goal.returns-in_err-read_unsigned_var-3-clause-reads
returns-in_err-read_unsigned_var-3-clause-reads c = search (reads, c.in_ok-read_unsigned_var.ensures.reads, c.in_ok-read_unsigned_var-2.ensures.reads, c.in_err-read_unsigned_var-3.ensures.reads, c.from_residual-in_err-read_unsigned_var-3.ensures.1) depth 12

pub returns-in_err-read_unsigned_var-3-clause-done : goal.returns-in_err-read_unsigned_var-3-clause-done
returns-in_err-read_unsigned_var-3-clause-done c = λ fine. done-if_left 36 slice_ends fine axes-enough (returns-in_err-read_unsigned_var-3-clause-reads c)

pub returns-clause-reads : goal.returns-clause-reads
returns-clause-reads c = search (reads, c.in_ok-read_unsigned_var.ensures.reads, c.in_ok-read_unsigned_var-2.ensures.reads, c.in_ok-read_unsigned_var-3.ensures.reads) depth 12
