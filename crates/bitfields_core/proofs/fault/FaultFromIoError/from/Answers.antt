use Rattle.std.proofs.Common.{ap, sym, ◌∙◌}
use Rattle.std.specs.declared.io.ErrorKind.{ErrorKind}
use Rattle.bitfields_core.specs.Fault.{fault, refusal_reason}
use Rattle.bitfields_core.proofs.fault.FaultFromIoError.from.Goals as goal

pub returns-in-OutOfMemory : goal.returns-in-OutOfMemory
returns-in-OutOfMemory c = c.new.ensures
    ∙ ap (λ (kind : ErrorKind). fault 0 (refusal_reason kind)) (sym c.in-OutOfMemory.is ∙ c.kind.ensures)
