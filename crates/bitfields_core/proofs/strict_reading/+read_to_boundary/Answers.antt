use Rattle.std.proofs.Common.{rules}
use Rattle.bitfields_core.proofs.PackingLemmas.{result_err}
use Rattle.bitfields_core.proofs.ZeroLemmas.{at_boundary, boundary_bit, boundary_bit_err, boundary_rest_err, off_boundary}
use Rattle.bitfields_core.proofs.strict_reading.+read_to_boundary.Goals as goal

pub returns-then-byte_aligned : goal.returns-then-byte_aligned
returns-then-byte_aligned g t c =
    let at = c.byte_aligned.ensures.0 (search rules) in
    at_boundary at.0 at.1

pub returns-in_err-bit : goal.returns-in_err-bit
returns-in_err-bit g t c =
    rw (result_err c.from_residual.result c.from_residual.ensures.1)
    (boundary_bit_err (λ at. let yes = c.byte_aligned.ensures.1 at in search rules) c.in_err-bit.ensures.reads)

pub returns-in_err-rest : goal.returns-in_err-rest
returns-in_err-rest g t c =
    let some = off_boundary (λ at. let yes = c.byte_aligned.ensures.1 at in search rules) c.in_ok-bit.ensures.reads in
    rw (result_err c.from_residual-in_err-rest.result c.from_residual-in_err-rest.ensures.1)
    (boundary_rest_err some c.in_ok-bit.ensures.reads c.in_err-rest.ensures)

pub returns : goal.returns
returns g t c =
    let some = off_boundary (λ at. let yes = c.byte_aligned.ensures.1 at in search rules) c.in_ok-bit.ensures.reads in
    boundary_bit some c.in_ok-bit.ensures.reads c.in_ok-rest.ensures
