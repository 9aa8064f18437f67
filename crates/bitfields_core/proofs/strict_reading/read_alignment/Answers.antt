use Rattle.bitfields_core.specs.Repacking.{if_zeros as if_zeros_of}
use Rattle.bitfields_core.proofs.FieldAnswers.{answers, stops}
use Rattle.bitfields_core.proofs.ZeroLemmas.{boundary}
use Rattle.bitfields_core.proofs.strict_reading.read_alignment.Goals as goal

pub returns-in_err-zero-clause-reads : goal.returns-in_err-zero-clause-reads
returns-in_err-zero-clause-reads g c =
    stops if_zeros_of c.from_residual.ensures.1 (boundary c.in_err-zero.ensures)

pub returns-clause-reads : goal.returns-clause-reads
returns-clause-reads g c = rw c.if_zeros.ensures.is (answers if_zeros_of (boundary c.in_ok-zero.ensures))
