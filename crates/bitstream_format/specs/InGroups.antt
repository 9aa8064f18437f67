-- The size of a part as a number in groups of 8 bits, as in MQTT: the writes of it.
use Rattle.std.specs.Prelude.{ℕ, ◌/◌, List, Result, Ok, Err}
use Rattle.bitstream_count.specs.declared.error.Error.{Error}
use Rattle.bitstream_value.specs.Lengths.{counted_bits}
use Rattle.bitstream_io.specs.Callers.{Encoder, Order, vbr}

-- the write of a number of bits as a number of bytes, in groups; or the error of the count
abbrev pub grouped_of : Order → Result ℕ Error → Encoder
grouped_of o (Ok n) = vbr o 8 (n / 8)
grouped_of o (Err error) = λ at. Err error

-- the write of the size of what these calls write, in groups; or the first error of these calls
unfoldable pub grouped_encoder : Order → List Encoder → Encoder
grouped_encoder o encoders = grouped_of o (counted_bits 18446744073709551615 encoders 0)
