-- Calls for whole bytes, one after another, and with errors of their own.
-- A sink of bytes is a record with its laws in it: so lemmas are imported.
use Rattle.std.specs.Prelude.{◌≡◌, ◌⊎◌, ◌||◌, ℕ, ◌+◌, ◌≤◌, nat_lt, if◌then◌else◌, List, [], ◌∷◌, length, drop, None, Some, Result, Ok, Err, IsErr}
use Rattle.std.proofs.Common.{sym, add-zero, arith, length-append}
use Rattle.bitstream_number.specs.Word.{Order, High}
use Rattle.bitstream_count.specs.declared.error.Error.{Error}
use Rattle.bitstream_count.specs.declared.error.Error.TheVariants.{CounterOverflow}
use Rattle.bitstream_count.specs.Codec.{Done, allocates_after, prefix_then, is_empty}
use Rattle.bitstream_stream.specs.WholeBytes.ByteReads.{ByteSource, ByteDecoder, ByteReads, byte_call}
use Rattle.bitstream_stream.specs.WholeBytes.ByteSink.{ByteSink, ByteWrites}
use Rattle.bitstream_value.specs.Lengths.{in_place, number_of}
use Rattle.bitstream_value.specs.Own.{OwnAnswer, OwnErrors}

-- one read of bytes and then, unless it returns an error, another, which may depend on its value
unfoldable pub byte_and_then : {A B : Type 0} → ByteDecoder A → (A → ByteDecoder B) → ByteDecoder B
byte_and_then e f = record {
  reads = λ bytes. prefix_then (e.reads bytes) (λ n a. (f a).reads (drop n bytes));
  allocates = λ bytes.
      e.allocates bytes || allocates_after (e.reads bytes) (λ n a. (f a).allocates (drop n bytes));
}

-- no read at all
abbrev pub byte_pure : {A : Type 0} → A → ByteDecoder A
byte_pure a = byte_call (λ _. Done 0 (Ok a))

-- the same, but the value is stored first, which may allocate
abbrev pub byte_stores : {A : Type 0} → A → ByteDecoder A
byte_stores a = record (byte_pure a) { allocates = λ bytes. is_empty bytes }

-- a read of bytes with errors of its own, which its decoder returns too
abbrev pub ByteReadsOwn : {R A E : Type 0} → ByteSource R → (Error → E → Type 0) → ByteDecoder (Result A E) → R
    → Result A E → R → Type 0
ByteReadsOwn K becomes decoder old result new = OwnErrors becomes (λ answer. answer)
    (λ plain. ByteReads K decoder old plain new) result

-- calls that write these bytes, a buffer each, up to the first that returns an error; for no calls, nothing
-- changes
unfoldable pub ByteWritesAll : {S : Type 0} → ByteSink S → List (List ℕ) → S → Result (Unit {0}) Error → S → Type 0
ByteWritesAll K [] old result new = (result ≡ Ok tt) × (new ≡ old)
ByteWritesAll {S} K (buffer ∷ buffers) old result new =
    (IsErr result × ByteWrites K buffer old result new)
    ⊎ ((mid : S) × ByteWrites {S = S} {T = Unit {0}} K buffer old (Ok tt) mid × ByteWritesAll K buffers mid result new)

-- these calls, and after them, if all were done, this result
abbrev pub ByteWritesOwn : {S E : Type 0} → ByteSink S → (Error → E → Type 0) → List (List ℕ) → Result (Unit {0}) E → S
    → Result (Unit {0}) E → S → Type 0
ByteWritesOwn K becomes buffers answer old result new =
    OwnErrors becomes (λ _. answer) (λ plain. ByteWritesAll K buffers old plain new) result

-- the number of bytes in all buffers
abbrev pub total_length : List (List ℕ) → ℕ
total_length [] = 0
total_length (buffer ∷ buffers) = length buffer + total_length buffers

-- in both orders of bytes the buffers have the same number of bytes in all
abbrev pub HasOneTotal : (Order → List (List ℕ)) → Type 0
HasOneTotal writes = (o p : Order) → total_length (writes o) ≡ total_length (writes p)

-- the number n, or an error if a counter does not hold it that holds `most` at most
abbrev pub held_by : ℕ → ℕ → Result ℕ Error
held_by most n = if nat_lt most n then Err CounterOverflow else Ok n

-- a count of the bytes of these calls, for a counter that holds `most` at most: their number, or the error that the
-- calls have on it
abbrev pub CountsBytes : {C E : Type 0} → (C → ℕ) → ℕ → (Error → E → Type 0) → List (List ℕ) → Result (Unit {0}) E
    → Result C E → Type 0
CountsBytes value most becomes buffers answer result = OwnAnswer becomes (in_place answer)
    (held_by most (total_length buffers)) (number_of value result)

-- a sink that keeps only the number of bytes, up to the greatest number of its type
abbrev pub byte_counter_sink : {S : Type 0} → (count : S → ℕ) → (greatest : ℕ) → ((s : S) → count s ≤ greatest)
    → ByteSink S
byte_counter_sink count greatest within = record {
  order = High;
  appends = λ a x b. count b ≡ count a + length x;
  contents = λ _. None;
  len = count;
  limit = Some greatest;
  refusals = λ _. [];
  may = λ _. ⊥;
  references = λ _. [];
  appends_nil = λ a. sym (add-zero (count a));
  appends_trans = λ a b c x y p q. omega (arith, p, q, length-append x y);
  grows = λ a b x p. tt;
  within = within;
  appends_len = λ a b x p. p;
}
