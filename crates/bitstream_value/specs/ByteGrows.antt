-- Reads of bytes in a function that allocates, between its reads or in them.
use Rattle.std.specs.Prelude.{◌≡◌, ℕ, zero, suc, IsTrue, Bool, true, false, List, [], ◌∷◌, ◌++◌, Result, Ok, Err}
use Rattle.bitstream_count.specs.declared.error.Error.{Error}
use Rattle.bitstream_count.specs.declared.error.Error.TheVariants.{OutOfMemory}
use Rattle.bitstream_count.specs.Codec.{Incomplete}
use Rattle.bitstream_stream.specs.WholeBytes.ByteReads.{ByteReaderState, ByteSource, ByteDecoder, BytesTaken, ByteMemoryRefused, ByteReads}
use Rattle.bitstream_value.specs.Own.{OwnErrors}
use Rattle.bitstream_value.specs.ByteTypes.{byte_and_then, byte_pure, byte_stores, ByteReadsOwn}

-- An allocation of a read of the call failed. The call may allocate after the bytes that were taken.
pub record ByteReadLacksMemory {A : Type 0} (decoder : ByteDecoder A) (old : ByteReaderState)
    (result : Result A Error) (new : ByteReaderState) : Type 0 where
  pub refused : ByteMemoryRefused decoder old result new
  pub asked : IsTrue (decoder.allocates refused.bytes)

-- An allocation failed between the reads of a call. The call may allocate after these bytes, which were taken. On each
-- proper prefix of them the decoder returns `Incomplete`: the call was not decided before.
pub record ByteGrowthRefused {A : Type 0} (decoder : ByteDecoder A) (old : ByteReaderState)
    (result : Result A Error) (new : ByteReaderState) : Type 0 where
  pub answer : result ≡ Err OutOfMemory
  pub bytes : List ℕ
  pub needs : (prefix : List ℕ) (b : ℕ) (back : List ℕ) → bytes ≡ prefix ++ b ∷ back → decoder.reads prefix ≡ Incomplete
  pub asked : IsTrue (decoder.allocates bytes)
  pub took : BytesTaken old bytes new

-- reads of bytes that allocate between them: they have the outcome of a read, or an allocation failed in one of
-- them or between them
pub data ByteGrowingOutcome {R A : Type 0} (K : ByteSource R) (decoder : ByteDecoder A) (old : R)
    (result : Result A Error) (new : R) : Type 0 where
  by_reads : ByteReads K decoder old result new → ByteGrowingOutcome K decoder old result new
  in_a_read : ByteReadLacksMemory decoder (K.state old) result (K.state new) → ByteGrowingOutcome K decoder old result new
  between_reads : ByteGrowthRefused decoder (K.state old) result (K.state new)
      → ByteGrowingOutcome K decoder old result new

-- a read of this kind with errors of its own, which its decoder returns too
abbrev pub ByteGrowsOwn : {R A E : Type 0} → ByteSource R → (Error → E → Type 0) → ByteDecoder (Result A E) → R
    → Result A E → R → Type 0
ByteGrowsOwn K becomes decoder old result new =
    OwnErrors becomes (λ answer. answer) (λ plain. ByteGrowingOutcome K decoder old plain new) result

-- a read of a type; the `Bool` states whether the read allocates
abbrev pub ByteOwnReads : {R A E : Type 0} → Bool → ByteSource R → (Error → E → Type 0) → ByteDecoder (Result A E)
    → R → Result A E → R → Type 0
ByteOwnReads false K becomes decoder old result new = ByteReadsOwn K becomes decoder old result new
ByteOwnReads true K becomes decoder old result new = ByteGrowsOwn K becomes decoder old result new

-- the read that follows a part with errors of its own, unless the part returns one
abbrev pub byte_part_then : {A B E : Type 0} → (A → ByteDecoder (Result B E)) → Result A E
    → ByteDecoder (Result B E)
byte_part_then f (Ok value) = f value
byte_part_then f (Err error) = byte_pure (Err error)

-- n parts with errors of their own, one after another, up to the first that returns one; each is stored once it
-- is read
unfoldable pub byte_parts : {A E : Type 0} → ByteDecoder (Result A E) → ℕ → ByteDecoder (Result (List A) E)
byte_parts decoder zero = byte_pure (Ok [])
byte_parts decoder (suc n) = byte_and_then (byte_parts decoder n) (byte_part_then (λ items.
    byte_and_then decoder (byte_part_then (λ item. byte_stores (Ok (items ++ item ∷ []))))))

-- n parts were read, and these are their values
abbrev pub BytePartsRead : {R A E : Type 0} → ByteSource R → (Error → E → Type 0) → ByteDecoder (Result A E) → ℕ → R
    → List A → R → Type 0
BytePartsRead K becomes decoder n old items new = ByteGrowsOwn K becomes (byte_parts decoder n) old (Ok items) new
