-- Lists of write calls whose encodings have one length in both orders of bits: `search lengths`.
use Rattle.std.proofs.Common.{◌≡◌, ℕ, ◌+◌, ◌^◌, ◌%◌, Bool, true, false, List, [], ◌∷◌, length, Result, Ok, Err, refl, sym, ap, ◌∙◌, arith}
use Rattle.std.specs.Prelude.{if◌then◌else◌, ◌==◌, ◌||◌, nat_lt}
use Rattle.bitstream_count.specs.declared.error.Error.{Error}
use Rattle.bitstream_count.specs.Codec.{Encoder, result_then}
use Rattle.bitstream_number.specs.Word.{Order, bytes, word}
use Rattle.bitstream_number.proofs.WordLemmas.{length-bits, length-word}
use Rattle.bitstream_stream.specs.Writing.WriteTable.{bit, buffer, plain, unsigned}
use Rattle.bitstream_value.specs.Lengths.{HasOneLength, number_of, sequence_length}

-- at all places that are as far after a whole byte, the encodings of two calls have one length, and those of two lists
pub record OneCall (e f : Encoder) : Type 0 where
  pub same : (m n : ℕ) → m % 8 ≡ n % 8 → number_of length (e m) ≡ number_of length (f n)

pub record OneLength (es fs : List Encoder) : Type 0 where
  pub same : (m n : ℕ) → m % 8 ≡ n % 8 → sequence_length es m ≡ sequence_length fs n

module _ {es fs : List Encoder} (h : OneLength es fs) where
  same_behind : (x y : Result (List Bool) Error) (m n : ℕ) → m % 8 ≡ n % 8 → number_of length x ≡ number_of length y
      → result_then x (λ w. result_then (sequence_length es (m + length w)) (λ more. Ok (length w + more)))
      ≡ result_then y (λ w. result_then (sequence_length fs (n + length w)) (λ more. Ok (length w + more)))
  same_behind (Ok u) (Ok v) m n at is =
      let size : length u ≡ length v = cc in
      let place : (m + length v) % 8 ≡ (n + length v) % 8 = omega (arith, at) in
      rw size (ap (λ (r : Result ℕ Error). result_then r (λ more. Ok (length v + more)))
      (h.same (m + length v) (n + length v) place))
  same_behind (Ok u) (Err y) m n at is = cc
  same_behind (Err x) (Ok v) m n at is = cc
  same_behind (Err x) (Err y) m n at is = let same : x ≡ y = cc in ap Err same

  pub next-length : (e f : Encoder) → OneCall e f → OneLength (e ∷ es) (f ∷ fs)
  next-length e f call = record { same = λ m n at. same_behind (e m) (f n) m n at (call.same m n at) }

  pub plain-length : (x y : List Bool) → length x ≡ length y → OneLength (plain x ∷ es) (plain y ∷ fs)
  plain-length x y size = next-length (plain x) (plain y) (record { same = λ m n at. ap Ok size })

  pub bit-length : (b : Bool) → OneLength (bit b ∷ es) (bit b ∷ fs)
  bit-length b = plain-length (b ∷ []) (b ∷ []) refl

  pub buffer-length : (o p : Order) (bytes : List ℕ) → OneLength (buffer o bytes ∷ es) (buffer p bytes ∷ fs)
  buffer-length o p bytes = plain-length _ _ (length-bits o bytes ∙ sym (length-bits p bytes))

-- a call that returns one of two errors, or an encoding
one_of : (b c : Bool) (x y : Error) (u v : List Bool) → length u ≡ length v
    → number_of length (if b then Err x else (if c then Ok u else Err y))
    ≡ number_of length (if b then Err x else (if c then Ok v else Err y))
one_of true c x y u v size = refl
one_of false true x y u v size = ap Ok size
one_of false false x y u v size = refl

module _ (o p : Order) (size n v : ℕ) where
  unsigned-call : OneCall (unsigned o size n v) (unsigned p size n v)
  unfolding unsigned
  unsigned-call = record {
    same = λ k m at. one_of (nat_lt size n) ((n == 0) || nat_lt v (2 ^ n)) _ _ (word o n v) (word p n v)
        (length-word o n v ∙ sym (length-word p n v));
  }

  pub unsigned-length : {es fs : List Encoder} → OneLength es fs
      → OneLength (unsigned o size n v ∷ es) (unsigned p size n v ∷ fs)
  unsigned-length h = next-length h _ _ unsigned-call

pub none-length : OneLength [] []
none-length = record { same = λ m n at. refl }

-- a list that has one length in each two orders
pub in_both_orders : (writes : Order → List Encoder) → ((o p : Order) → OneLength (writes o) (writes p))
    → HasOneLength writes
in_both_orders writes h = λ o p m n at. (h o p).same m n at

pub ruleset lengths = (unsigned-length, bit-length, buffer-length, none-length)
