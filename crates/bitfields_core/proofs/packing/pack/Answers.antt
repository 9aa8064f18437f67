use Rattle.bitfields_core.proofs.MemoryLemmas.{value_expected, fault_expected}
use Rattle.bitfields_core.proofs.PackingLemmas.{Packs-refused, Packs-values}
use Rattle.bitfields_core.proofs.packing.pack.Goals as goal

pub returns : goal.returns
returns g c =
    rw (value_expected c.in_ok-values.ensures.values, ← c.deref.ensures.value)
    (Packs-values g.W.Target.stream g.E.Endianness.order
    c.args.layout.now _ c.args.output.now c.pack_values.result c.pack_values.new.output c.pack_values.ensures)

pub returns-in_err-values : goal.returns-in_err-values
returns-in_err-values g c =
    Packs-refused g.W.Target.stream g.E.Endianness.order
    c.args.layout.now _ c.args.output.now c.from_residual.result c.in_err-values.field-0.0 c.from_residual.ensures.1
    (fault_expected c.in_err-values.ensures.values)
