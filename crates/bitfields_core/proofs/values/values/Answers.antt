use Rattle.std.proofs.Common.{map}
use Rattle.bitfields_core.proofs.ValueLemmas.{IfOk-Fit}
use Rattle.bitfields_core.proofs.values.values.Goals as goal

pub returns-clause-fit : goal.returns-clause-fit
returns-clause-fit c =
    rw (← c.fields.ensures.fields) (IfOk-Fit c.fields.result.now (map (λ x. x.now) c.deref.result.now) (λ v. v.items)
    c.read_values.result c.read_values.ensures)
