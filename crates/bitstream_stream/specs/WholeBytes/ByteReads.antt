-- The effect of one read of whole bytes on a reader of bytes.
use Rattle.std.specs.Prelude.{◌≡◌, ℕ, ◌+◌, Bool, true, false, List, ◌∷◌, ◌++◌, length, take, nat_le, nat_lt, if◌then◌else◌, Option, Some, Result, Ok, Err}
use Rattle.std.specs.Borrow.{GName, MutBor}
use Rattle.std.specs.Io.KnownBytes.{Consumes}
use Rattle.bitstream_order.specs.Reference.{Reference, by_name}
use Rattle.bitstream_count.specs.declared.error.Error.{Error}
use Rattle.bitstream_count.specs.declared.error.Error.TheVariants.{OutOfMemory}
use Rattle.bitstream_count.specs.Codec.{Prefix, Incomplete, Done}
use Rattle.bitstream_number.specs.Word.{Order}
use Rattle.bitstream_order.specs.Fault.{read_refusal_of}
use Rattle.bitstream_order.specs.Refusal.{Refusal, IsTrueEnd}

-- the known state of a reader of bytes
pub record ByteReaderState : Type 0 where
  -- the bytes left in the stream, if they are known, and the number of bytes taken so far
  pub bytes : Option (List ℕ)
  pub taken : ℕ
  -- the failed requests to the stream, the last one first
  pub refusals : List Refusal
  -- the references through which the stream is reached
  pub references : List Reference

-- a reader of bytes as a source
pub record ByteSource (R : Type 0) : Type 1 where
  pub order : Order
  pub state : R → ByteReaderState
  -- the failed requests that its stream allows
  pub may : Refusal → Type 0

-- a call that reads bytes: its result on the bytes left, and whether it may allocate once it has taken just
-- these bytes
pub record ByteDecoder (A : Type 0) : Type 0 where
  pub reads : List ℕ → Prefix A
  pub allocates : List ℕ → Bool

-- a call with this prefix, which never allocates
abbrev pub byte_call : {A : Type 0} → (List ℕ → Prefix A) → ByteDecoder A
byte_call f = record { reads = f; allocates = λ _. false }

-- n bytes, with g of them as the result
abbrev pub byte_prefix : {A : Type 0} → ℕ → (List ℕ → Result A Error) → List ℕ → Prefix A
byte_prefix n g bytes = if nat_le n (length bytes) then Done n (g (take n bytes)) else Incomplete

-- n bytes, returned unchanged
unfoldable pub given_bytes : ℕ → ByteDecoder (List ℕ)
given_bytes n = byte_call (byte_prefix n (λ bytes. Ok bytes))

-- n bytes into a vector, which grows as they arrive
abbrev pub vec_bytes : ℕ → ByteDecoder (List ℕ)
vec_bytes n = record (given_bytes n) { allocates = λ bytes. nat_lt (length bytes) n }

-- n bytes, whatever they are
unfoldable pub skipped_bytes : ℕ → ByteDecoder (Unit {0})
skipped_bytes n = byte_call (byte_prefix n (λ _. Ok tt))

-- these bytes were taken, and no request failed
pub record BytesTaken (old : ByteReaderState) (bytes : List ℕ) (new : ByteReaderState) : Type 0 where
  pub loses : Consumes old.bytes new.bytes bytes
  pub taken : new.taken ≡ old.taken + length bytes
  pub refusals : new.refusals ≡ old.refusals
  pub references : new.references ≡ old.references

-- The call takes its prefix, some bytes, and returns the prefix's result. These bytes alone decide it, whatever
-- bytes follow, and no proper beginning of them has a prefix.
pub record ByteReadDone {A : Type 0} (decoder : ByteDecoder A) (old : ByteReaderState) (result : Result A Error)
    (new : ByteReaderState) : Type 0 where
  pub bytes : List ℕ
  pub decides : (more : List ℕ) → decoder.reads (bytes ++ more) ≡ Done (length bytes) result
  pub needs : (prefix : List ℕ) (b : ℕ) (back : List ℕ) → bytes ≡ prefix ++ b ∷ back → decoder.reads prefix ≡ Incomplete
  pub took : BytesTaken old bytes new

-- A request failed, as the stream allows. The bytes taken before were too few for the call. At the end of input so
-- were all bytes left. The stream lost the bytes taken, and is as the failed request left it.
pub record ByteReadRefused {A : Type 0} (may : Refusal → Type 0) (decoder : ByteDecoder A)
    (old : ByteReaderState) (result : Result A Error) (new : ByteReaderState) : Type 0 where
  pub refusal : Refusal
  pub allowed : may refusal
  pub answer : result ≡ Err (read_refusal_of refusal.kind)
  pub gone : List ℕ
  pub loses : Consumes old.bytes refusal.before gone
  pub after : new.bytes ≡ refusal.after
  pub taken : new.taken ≡ old.taken + length gone
  pub few : decoder.reads gone ≡ Incomplete
  pub ended : IsTrueEnd refusal → (xs : List ℕ) → old.bytes ≡ Some xs → decoder.reads xs ≡ Incomplete
  pub refusals : new.refusals ≡ refusal ∷ old.refusals
  pub references : new.references ≡ old.references

-- An allocation of the call itself failed. The bytes that were taken until then were too few for the call, so a
-- call for no bytes never reports a failed allocation.
pub record ByteMemoryRefused {A : Type 0} (decoder : ByteDecoder A) (old : ByteReaderState)
    (result : Result A Error) (new : ByteReaderState) : Type 0 where
  pub answer : result ≡ Err OutOfMemory
  pub bytes : List ℕ
  pub few : decoder.reads bytes ≡ Incomplete
  pub took : BytesTaken old bytes new

-- one read of bytes, from the meaning of the call; `grows` is true if the call allocates
pub data ByteReadOutcome {R A : Type 0} (K : ByteSource R) (grows : Bool) (decoder : ByteDecoder A) (old : R)
    (result : Result A Error) (new : R) : Type 0 where
  was_done : ByteReadDone decoder (K.state old) result (K.state new) → ByteReadOutcome K grows decoder old result new
  was_refused : ByteReadRefused K.may decoder (K.state old) result (K.state new)
      → ByteReadOutcome K grows decoder old result new
  memory_refused : grows ≡ true → ByteMemoryRefused decoder (K.state old) result (K.state new)
      → ByteReadOutcome K grows decoder old result new

-- one read of bytes
abbrev pub ByteReads : {R A : Type 0} → ByteSource R → ByteDecoder A → R → Result A Error → R → Type 0
ByteReads K decoder old result new = ByteReadOutcome K false decoder old result new

-- one read of bytes that allocates memory itself
abbrev pub ByteReadsGrowing : {R A : Type 0} → ByteSource R → ByteDecoder A → R → Result A Error → R → Type 0
ByteReadsGrowing K decoder old result new = ByteReadOutcome K true decoder old result new

-- a state, seen through a reference of this name
abbrev pub lent_bytes : GName → ByteReaderState → ByteReaderState
lent_bytes name s = record s { references = by_name name ∷ s.references }

-- a reader of bytes that a `&mut` refers to
abbrev pub lent_byte_source : {R : Type 0} → ByteSource R → ByteSource (MutBor R)
lent_byte_source K = record {
  order = K.order;
  state = λ r. lent_bytes r.ghost_name (K.state r.now);
  may = K.may;
}

-- a reader of bytes inside a state
abbrev pub inner_byte_source : {S R : Type 0} → (S → R) → ByteSource R → ByteSource S
inner_byte_source f K = record { order = K.order; state = λ s. K.state (f s); may = K.may }
