-- Reads of whole bytes one after another, as the lines of a `do` block.
use Rattle.std.specs.Prelude.{ℕ}
use Rattle.bitstream_number.specs.Word.{Order, number, bits}
use Rattle.bitstream_stream.specs.WholeBytes.ByteReads.{ByteDecoder, given_bytes}
use Rattle.bitstream_value.specs.ByteTypes.{byte_and_then, byte_pure}

infixl 10 ◌>>=◌
-- one read of bytes and then, unless it returns an error, another, which may depend on its value
abbrev pub ◌>>=◌ : {A B : Type 0} → ByteDecoder A → (A → ByteDecoder B) → ByteDecoder B
decoder >>= f = byte_and_then decoder f

-- n bytes, with their number in an order of bytes as the result
unfoldable pub number_bytes : Order → ℕ → ByteDecoder ℕ
number_bytes o n = byte_and_then (given_bytes n) (λ bytes. byte_pure (number o (bits o bytes)))
