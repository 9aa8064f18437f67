use Rattle.std.proofs.lemmas.List.Elements.{recursion_from_All}
use Rattle.bitfields_core.specs.Layout.{IsField}
use Rattle.bitfields_core.proofs.FieldCalls.{unpacked-written}
use Rattle.bitfields_core.proofs.laws.packed_values_are_unpacked.Goals as goal

pub returns : goal.returns
returns c = λ o k fields vs at rest i h. unpacked-written o k fields vs at rest (recursion_from_All IsField fields i) h
