-- Sizes in units, as `./format` prints them: a stored number states how many bytes a part has. They are that number of units
-- and `less` bytes more, without `plus` bytes, which the number counts but which are not in the part.
use Rattle.std.specs.Prelude.{ℕ, ◌+◌, ◌-◌, ◌*◌, ◌/◌, ◌%◌, ◌==◌, ◌&&◌, min, nat_le, if◌then◌else◌, Option, Some, None, List, Result, Ok, Err}
use Rattle.bitstream_count.specs.declared.error.Error.{Error}
use Rattle.bitstream_value.specs.Lengths.{counted_bits}
use Rattle.bitstream_io.specs.Callers.{Decoder, Encoder, Order, and_then, pure, unsigned, vec_decoder}

-- the bytes of a number of units, and `less` more; 2^64 - 1 at most
unfoldable pub size_in_units : ℕ → ℕ → ℕ → ℕ
size_in_units unit less number = min (min (number * unit) 18446744073709551615 + less) 18446744073709551615

-- the bytes that a number states; none if `plus` is more than they are
unfoldable pub stated_size : ℕ → ℕ → ℕ → ℕ → Option ℕ
stated_size unit plus less number =
    if nat_le plus (size_in_units unit less number) then Some (size_in_units unit less number - plus) else None

-- the number of units in `counted` bytes, of which `less` are in no unit; 2^64 - 1 if they are no whole units
abbrev pub units_in : ℕ → ℕ → ℕ → ℕ
units_in unit less counted =
    if nat_le less counted && ((counted - less) % unit == 0) then (counted - less) / unit else 18446744073709551615

-- the number that states n bytes; 2^64 - 1, which is no size, if none does
unfoldable pub stored_size : ℕ → ℕ → ℕ → ℕ → ℕ
stored_size unit plus less bytes = units_in unit less (min (bytes + plus) 18446744073709551615)

-- the reads of a part of the stated number of bytes; `err` if no size is stated
abbrev pub if_stated : {A E : Type 0} → E → (ℕ → Decoder (Result A E)) → Option ℕ → Decoder (Result A E)
if_stated err decoder (Some n) = decoder n
if_stated err decoder None = pure (Err err)

-- the reads of a part whose size a number states
abbrev pub stated_decoder : {A E : Type 0} → ℕ → ℕ → ℕ → E → (Order → ℕ → Decoder (Result A E)) → Order → ℕ
    → Decoder (Result A E)
stated_decoder unit plus less err decoder o number = if_stated err (decoder o) (stated_size unit plus less number)

-- the reads of n bytes, among reads that may fail
abbrev pub sized_bytes : {E : Type 0} → Order → ℕ → Decoder (Result (List ℕ) E)
sized_bytes o n = and_then (vec_decoder o n) (λ bytes. pure (Ok bytes))

-- the write of the number that states the bytes of a number of bits, in `width` bits; or the error of the count
abbrev pub stored_of : Order → ℕ → ℕ → ℕ → ℕ → Result ℕ Error → Encoder
stored_of o width unit plus less (Ok n) = unsigned o 64 width (stored_size unit plus less (n / 8))
stored_of o width unit plus less (Err error) = λ at. Err error

-- the write of the number that states the bytes of what these calls write; or the first error of these calls
unfoldable pub stored_encoder : Order → ℕ → ℕ → ℕ → ℕ → List Encoder → Encoder
stored_encoder o width unit plus less encoders =
    stored_of o width unit plus less (counted_bits 18446744073709551615 encoders 0)
