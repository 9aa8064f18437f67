-- Reads one after another, as the lines of a `do` block, and a number that is read as its bytes.
use Rattle.std.specs.Prelude.{ℕ}
use Rattle.bitstream_count.specs.Codec.{Decoder, and_then, pure}
use Rattle.bitstream_number.specs.Word.{Order, bits, number}
use Rattle.bitstream_stream.specs.Reading.ReadTable.{bytes_decoder}

infixl 10 ◌>>=◌
-- one read and then, unless it returns an error, another, which may depend on its value
abbrev pub ◌>>=◌ : {A B : Type 0} → Decoder A → (A → Decoder B) → Decoder B
decoder >>= f = and_then decoder f

-- n bytes, with their number as the result, in an order of bytes that may differ from the order of the bits
abbrev pub bytes_number : Order → Order → ℕ → Decoder ℕ
bytes_number o p n = do
  found ← bytes_decoder o n
  pure (number p (bits p found))
