-- Parts of a stated size, as `./format` prints them. A size limits the reader: its bytes are read first, and then the part over
-- these bytes alone. If the part needs more bytes or does not take them all, the error is the one that the size names.
use Rattle.std.specs.Prelude.{◌≡◌, ◌⊎◌, ℕ, ◌/◌, ◌==◌, if◌then◌else◌, Bool, true, false, List, length, Result, Ok, Err}
use Rattle.bitstream_count.specs.declared.error.Error.{Error}
use Rattle.bitstream_count.specs.declared.error.Error.TheVariants.{ReadBits, Checked, NoSignBit, BoolWidth, NonZeroWidth, VariableWidthOverflow, RedundantGroup, CounterOverflow, RunTooLong, EndOfInput, Stream, OutOfMemory, Place, Failed}
use Rattle.bitstream_count.specs.Codec.{Prefix, Incomplete}
use Rattle.bitstream_value.specs.Lengths.{counted_bits}
use Rattle.bitstream_io.specs.Callers.{Decoder, Encoder, Done, Order, unsigned}
use Rattle.bitstream_format.specs.Sizes.{limited}

-- true if an error is the end of the input
abbrev pub is_end : Error → Bool
is_end ReadBits = false
is_end (Checked c) = false
is_end NoSignBit = false
is_end BoolWidth = false
is_end NonZeroWidth = false
is_end VariableWidthOverflow = false
is_end RedundantGroup = false
is_end CounterOverflow = false
is_end RunTooLong = false
is_end EndOfInput = true
is_end (Stream kind) = false
is_end OutOfMemory = false
is_end Place = false
is_end Failed = false

-- The result of a part whose bits are these alone, of which there are `size`. It is `err` if the part needs more or does not
-- take them all. `own` makes an own error of the reader's, and `ended` turns the end of the input into `err`.
abbrev pub fills : {A E : Type 0} → ℕ → E → (Error → E) → (E → E) → Prefix (Result A E) → Result A E
fills size err own ended Incomplete = Err err
fills size err own ended (Done n (Ok (Ok a))) = if n == size then Ok a else Err err
fills size err own ended (Done n (Ok (Err x))) = Err (ended x)
fills size err own ended (Done n (Err x)) = Err (ended (own x))

-- the result of a part that is read over these bits alone
abbrev pub within : {A E : Type 0} → Decoder (Result A E) → E → (Error → E) → (E → E) → List Bool → Result A E
within decoder err own ended w = fills (length w) err own ended (decoder.reads 0 w)

-- the reads of a part of n bytes: these bytes, and then the part over their bits alone
abbrev pub sized_decoder : {A E : Type 0} → (Order → Decoder (Result A E)) → E → (Error → E) → (E → E) → Order → ℕ
    → Decoder (Result A E)
sized_decoder decoder err own ended o n = limited true n (within (decoder o) err own ended) o

-- a result, unless an allocation failed
abbrev pub UnlessMemory : {A E : Type 0} → (Error → E) → Result A E → Result A E → Type 0
UnlessMemory own known result = (result ≡ known) ⊎ (result ≡ Err (own OutOfMemory))

-- the write of a number of bits as a number of bytes, in `width` bits; or the error of the count
abbrev pub size_of : Order → ℕ → Result ℕ Error → Encoder
size_of o width (Ok n) = unsigned o 64 width (n / 8)
size_of o width (Err error) = λ at. Err error

-- the write of the size of what these calls write, in `width` bits; or the first error of these calls
unfoldable pub size_encoder : Order → ℕ → List Encoder → Encoder
size_encoder o width encoders = size_of o width (counted_bits 18446744073709551615 encoders 0)
