use Rattle.bitfields_core.specs.Repacking.{if_zeros as if_zeros_of}
use Rattle.bitfields_core.proofs.FieldAnswers.{answers, stops}
use Rattle.bitfields_core.proofs.strict_reading.read_padding.Goals as goal

pub returns-in_err-zero : goal.returns-in_err-zero
returns-in_err-zero g c = stops if_zeros_of c.from_residual.ensures.1 c.in_err-zero.ensures

pub returns : goal.returns
returns g c = rw c.if_zeros.ensures.is (answers if_zeros_of c.in_ok-zero.ensures)
