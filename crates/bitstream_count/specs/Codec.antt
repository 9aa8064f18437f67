-- The meaning of a call: a decoder of the read table, or an encoder of the write table.
use Rattle.std.specs.Prelude.{ℕ, ◌+◌, Bool, true, false, ◌||◌, ◌==◌, List, [], ◌∷◌, length, take, drop, nat_le, if◌then◌else◌, Result, Ok, Err}
use Rattle.bitstream_count.specs.declared.error.Error.{Error}
use Rattle.bitstream_count.specs.declared.error.Error.TheVariants.{Failed}

-- the result of a call on the bits to read: there are too few, or the call takes n of them and returns a value
-- or an error
pub data Prefix (A : Type 0) : Type 0 where
  Incomplete : Prefix A
  Done : (n : ℕ) → (answer : Result A Error) → Prefix A

-- a read call: its result on the bits left, which may depend on the number of bits taken before; and its result
-- on a failed reader
pub record Decoder (A : Type 0) : Type 0 where
  pub reads : ℕ → List Bool → Prefix A
  pub on_failed : Result A Error
  -- true if the call may allocate once it has taken just these bits
  pub allocates : ℕ → List Bool → Bool

-- a write call: the bits that it appends, which may depend on the number of bits written before, or its error
abbrev pub Encoder : Type 0
Encoder = ℕ → Result (List Bool) Error

-- n bits, with g of them as the result
abbrev pub word_prefix : {A : Type 0} → ℕ → (List Bool → Result A Error) → List Bool → Prefix A
word_prefix n g bits = if nat_le n (length bits) then Done n (g (take n bits)) else Incomplete

-- a read call with this prefix, which returns `Failed` on a failed reader and never allocates
abbrev pub call : {A : Type 0} → (ℕ → List Bool → Prefix A) → Decoder A
call f = record { reads = f; on_failed = Err Failed; allocates = λ _ _. false }

-- a call that takes n bits and returns g of them
abbrev pub consume : {A : Type 0} → ℕ → (List Bool → Result A Error) → Decoder A
consume n g = call (λ _ bits. word_prefix n g bits)

-- an error that takes no bits
abbrev pub fail : {A : Type 0} → Error → Decoder A
fail e = call (λ _ _. Done 0 (Err e))

-- a call that does nothing: it takes no bits, and returns this value even if the reader has failed
abbrev pub pure : {A : Type 0} → A → Decoder A
pure a = record { reads = λ _ _. Done 0 (Ok a); on_failed = Ok a; allocates = λ _ _. false }

-- true if a list is empty
abbrev pub is_empty : {X : Type 0} → List X → Bool
is_empty [] = true
is_empty (x ∷ xs) = false

-- the same, but the value is stored first, which may allocate
abbrev pub stores : {A : Type 0} → A → Decoder A
stores a = record (pure a) { allocates = λ _ bits. is_empty bits }

-- true if these are just the bits, or the bytes, of a value
abbrev pub is_whole : {X A : Type 0} → Prefix A → List X → Bool
is_whole Incomplete xs = false
is_whole (Done n (Ok a)) xs = n == length xs
is_whole (Done n (Err e)) xs = false

-- the same call, whose value is then stored, which may allocate: an item of a list
abbrev pub list_item : {A : Type 0} → Decoder A → Decoder A
list_item e = record e { allocates = λ p bits. e.allocates p bits || is_whole (e.reads p bits) bits }

-- a prefix after n bits, with the n bits counted
abbrev pub advance : {A : Type 0} → ℕ → Prefix A → Prefix A
advance n Incomplete = Incomplete
advance n (Done m answer) = Done (n + m) answer

-- one prefix and then another, which may depend on the value of the first; an error ends both
abbrev pub prefix_then : {A B : Type 0} → Prefix A → (ℕ → A → Prefix B) → Prefix B
prefix_then Incomplete f = Incomplete
prefix_then (Done n (Ok a)) f = advance n (f n a)
prefix_then (Done n (Err e)) f = Done n (Err e)

-- one result and then another, made from its value; an error is kept
abbrev pub result_then : {A B : Type 0} → Result A Error → (A → Result B Error) → Result B Error
result_then (Ok a) f = f a
result_then (Err e) f = Err e

-- true if the call that follows a prefix allocates
abbrev pub allocates_after : {A : Type 0} → Prefix A → (ℕ → A → Bool) → Bool
allocates_after Incomplete f = false
allocates_after (Done n (Ok a)) f = f n a
allocates_after (Done n (Err e)) f = false

-- one call and then, unless it returns an error, another, which may depend on the value of the first
unfoldable pub and_then : {A B : Type 0} → Decoder A → (A → Decoder B) → Decoder B
and_then e f = record {
  reads = λ p bits. prefix_then (e.reads p bits) (λ n a. (f a).reads (p + n) (drop n bits));
  on_failed = result_then e.on_failed (λ a. (f a).on_failed);
  allocates = λ p bits.
      e.allocates p bits || allocates_after (e.reads p bits) (λ n a. (f a).allocates (p + n) (drop n bits));
}
