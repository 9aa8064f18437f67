use Rattle.std.proofs.Common.{◌≡◌, [], ◌∷◌, ◌++◌, None}
use Rattle.std.proofs.lemmas.List.Elements.{recursion_from_All, All-from_recursion}
use Rattle.bitstream_io.specs.Sequence.{write_refusals}
use Rattle.bitstream_io.specs.WriteTable.{align}
use Rattle.bitfields_core.specs.Layout.{IsField}
use Rattle.bitfields_core.specs.Packing.{field_writes}
use Rattle.bitfields_core.proofs.FieldCalls.{refusals-none}
use Rattle.bitfields_core.proofs.laws.packing_is_a_write_sequence.Goals as goal

pub returns-clause-accepted : goal.returns-clause-accepted
returns-clause-accepted c = λ o fields vs at i h.
    All-from_recursion (λ r. r ≡ None) (write_refusals (field_writes o fields vs ++ align ∷ []) at)
    (refusals-none o fields vs at (recursion_from_All IsField fields i) h)
