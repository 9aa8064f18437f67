-- Checked values: numbers that are kept with a count of bits.
use Rattle.std.specs.Prelude.{◌≡◌, ℕ, ℤ, pos, Result, Err, IsOkAnd, MatchResult}
use Rattle.bitstream_count.specs.Codec.{Decoder, and_then, pure}
use Rattle.bitstream_number.specs.Word.{Order}
use Rattle.bitstream_stream.specs.Reading.ReadTable.{unsigned_decoder, signed_decoder}

-- an unsigned number of n bits, read into a type of `size` bits: the result is the count passed, and the number
unfoldable pub checked_decoder : {C : Type 0} → C → Order → ℕ → ℕ → Decoder (C × ℤ)
checked_decoder count o size n = and_then (unsigned_decoder o size n) (λ v. pure (count, pos v))

-- a signed number of n bits, read into a type of `size` bits: the result is the count passed, and the number
unfoldable pub signed_checked_decoder : {C : Type 0} → C → Order → ℕ → ℕ → Decoder (C × ℤ)
signed_checked_decoder count o size n = and_then (signed_decoder o size n) (λ x. pure (count, x))

-- a result that is kept with a count: the count and the value, or the same error
abbrev pub KeptWith : {C T E : Type 0} → C → Result T E → Result (C × T) E → Type 0
KeptWith count answer kept =
    MatchResult answer (λ value. IsOkAnd kept (λ c. (c.0 ≡ count) × (c.1 ≡ value))) (λ error. kept ≡ Err error)
