use Rattle.bitfields_core.proofs.PackingLemmas.{Packing}
use Rattle.bitfields_core.proofs.packing.append_fields.Given as goal

abbrev pub invariant-loop-field : goal.invariant-loop-field
invariant-loop-field g l = Packing g.W.BitWrite.sink l.fields l.values l.field-index l.initial.writer l.rest l.writer
