-- The bytes left of an input: those that it fetched and that are not yet taken, and then those of its reader.
use Rattle.std.specs.Prelude.{ℕ, List, drop, Option}
use Rattle.std.specs.Io.KnownBytes.{prepend_known}
use Rattle.flac_codec.specs.declared.input.Input.{Input}

-- the bytes that were fetched and are not yet taken
abbrev pub fetched : {R : Type 0} → Input R → List ℕ
fetched input = drop input.start input.bytes.items

-- all bytes left, if those of the reader are known
abbrev pub bytes_left : {R : Type 0} → (R → Option (List ℕ)) → Input R → Option (List ℕ)
bytes_left remaining input = prepend_known (fetched input) (remaining input.reader)
