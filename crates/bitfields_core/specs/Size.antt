-- Sizes: the number of bits of the values of fields.
use Rattle.std.specs.Prelude.{ℕ, List, length, Result, Ok, Err}
use Rattle.bitstream_io.specs.Word.{Order}
use Rattle.bitstream_io.specs.Sequence.{write_sequence}
use Rattle.bitfields_core.specs.declared.fault.Fault.{Fault}
use Rattle.bitfields_core.specs.declared.field.Field.{Field}
use Rattle.bitfields_core.specs.declared.field_value.FieldValue.{FieldValue}
use Rattle.bitfields_core.specs.Layout.{IsUnlessMemory}
use Rattle.bitfields_core.specs.Packing.{field_writes}

-- the number of bits of the fields' words, before the last alignment
abbrev pub size_of : Order → List Field → List FieldValue → ℕ
size_of o fields vs = length (write_sequence (field_writes o fields vs) 0)

-- the size of the values that are spelt, or the fault in them
abbrev pub spelt_size : Order → List Field → Result (List FieldValue) Fault → Result ℕ Fault
spelt_size o fields (Ok vs) = Ok (size_of o fields vs)
spelt_size o fields (Err f) = Err f

-- the size of the values that are spelt, in either order of bits, or the fault in them, refused memory aside
abbrev pub Sizes : List Field → Result (List FieldValue) Fault → Result ℕ Fault → Type 0
Sizes fields spelt result = (o : Order) → IsUnlessMemory (spelt_size o fields spelt) result
