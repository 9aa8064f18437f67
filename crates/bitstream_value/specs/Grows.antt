-- Reads in a function that allocates, between its reads or in them.
use Rattle.std.specs.Prelude.{◌≡◌, ℕ, zero, suc, IsTrue, Bool, true, false, List, [], ◌∷◌, ◌++◌, Result, Ok, Err}
use Rattle.bitstream_count.specs.declared.error.Error.{Error}
use Rattle.bitstream_count.specs.declared.error.Error.TheVariants.{OutOfMemory}
use Rattle.bitstream_count.specs.Codec.{Decoder, Incomplete, and_then, pure, stores}
use Rattle.bitstream_number.specs.Word.{Order}
use Rattle.bitstream_stream.specs.Reading.Reads.{ReaderState, BitSource, Took, MemoryRefused, Reads}
use Rattle.bitstream_value.specs.Own.{OwnErrors, ReadsOwn, part_then}

-- An allocation of a read of the call failed, and the reader has failed. The call may allocate after the bits that
-- were taken.
pub record ReadLacksMemory {A : Type 0} (o : Order) (decoder : Decoder A) (old : ReaderState) (result : Result A Error)
    (new : ReaderState) : Type 0 where
  pub refused : MemoryRefused o decoder old result new
  pub asked : IsTrue (decoder.allocates old.taken refused.word)

-- An allocation failed between the reads of a call, on a reader that had not failed and continues. The call may
-- allocate after the bits that were taken. On each proper prefix of these bits the decoder returns `Incomplete`:
-- the call was not decided before.
pub record GrowthRefused {A : Type 0} (o : Order) (decoder : Decoder A) (old : ReaderState) (result : Result A Error)
    (new : ReaderState) : Type 0 where
  pub answer : result ≡ Err OutOfMemory
  pub word : List Bool
  pub needs : (prefix : List Bool) (b : Bool) (back : List Bool) → word ≡ prefix ++ b ∷ back → decoder.reads old.taken prefix
      ≡ Incomplete
  pub asked : IsTrue (decoder.allocates old.taken word)
  pub took : Took o old word new

-- reads that allocate between them: they have the outcome of a read, or an allocation failed in one of them or
-- between them
pub data GrowingOutcome {R A : Type 0} (K : BitSource R) (decoder : Decoder A) (old : R) (result : Result A Error)
    (new : R) : Type 0 where
  by_reads : Reads K decoder old result new → GrowingOutcome K decoder old result new
  in_a_read : ReadLacksMemory K.order decoder (K.state old) result (K.state new) → GrowingOutcome K decoder old result new
  between_reads : GrowthRefused K.order decoder (K.state old) result (K.state new)
      → GrowingOutcome K decoder old result new

-- the call may allocate once it has taken some first bits of these
pub record MayAllocate {A : Type 0} (decoder : Decoder A) (taken : ℕ) (bits : List Bool) : Type 0 where
  pub prefix : List Bool
  pub back : List Bool
  pub parts : bits ≡ prefix ++ back
  pub asked : IsTrue (decoder.allocates taken prefix)

-- a read of this kind with errors of its own, which its decoder returns too
abbrev pub GrowsOwn : {R A E : Type 0} → BitSource R → (Error → E → Type 0) → Decoder (Result A E) → R → Result A E
    → R → Type 0
GrowsOwn K becomes decoder old result new =
    OwnErrors becomes (λ answer. answer) (λ plain. GrowingOutcome K decoder old plain new) result

-- a read of a type; the `Bool` states whether the read allocates
abbrev pub OwnReads : {R A E : Type 0} → Bool → BitSource R → (Error → E → Type 0) → Decoder (Result A E) → R
    → Result A E → R → Type 0
OwnReads false K becomes decoder old result new = ReadsOwn K becomes decoder old result new
OwnReads true K becomes decoder old result new = GrowsOwn K becomes decoder old result new

-- n parts with errors of their own, one after another, up to the first that returns one; each is stored once it
-- is read
unfoldable pub parts_decoder : {A E : Type 0} → Decoder (Result A E) → ℕ → Decoder (Result (List A) E)
parts_decoder decoder zero = pure (Ok [])
parts_decoder decoder (suc n) = and_then (parts_decoder decoder n) (part_then (λ items.
    and_then decoder (part_then (λ item. stores (Ok (items ++ item ∷ []))))))

-- n parts were read, and these are their values
abbrev pub PartsRead : {R A E : Type 0} → BitSource R → (Error → E → Type 0) → Decoder (Result A E) → ℕ → R → List A
    → R → Type 0
PartsRead K becomes decoder n old items new = GrowsOwn K becomes (parts_decoder decoder n) old (Ok items) new
