-- Bytes that a read of bytes takes, whatever is after them, and what it returns then: how a caller's law of
-- reading back goes through its parts.
use Rattle.std.proofs.Common.{◌≡◌, ℕ, suc, ◌+◌, ◌*◌, ◌^◌, ◌<◌, List, [], ◌∷◌, ◌++◌, length, Result, Ok, refl, sym, ap, ◌∙◌, subst, append_assoc, append-nil, length-append, arith}
use Rattle.std.specs.List.{All, AllByRecursion, flat_map}
use Rattle.std.proofs.lemmas.List.Elements.{recursion_from_All}
use Rattle.bitstream_count.specs.Codec.{Done}
use Rattle.bitstream_number.specs.Word.{Order, High, Low, bits, number}
use Rattle.bitstream_number.proofs.ByteLemmas.{length-bytes}
use Rattle.bitstream_stream.specs.WholeBytes.ByteReads.{ByteDecoder, given_bytes}
use Rattle.bitstream_stream.proofs.Reading.CodecLemmas.{word_prefix-some as byte_prefix-some}
use Rattle.bitstream_value.specs.ByteGrows.{byte_part_then, byte_parts}
use Rattle.bitstream_value.specs.ByteSteps.{number_bytes}
use Rattle.bitstream_value.specs.ByteTypes.{byte_and_then, byte_pure, byte_stores}
use Rattle.bitstream_value.proofs.ByteSteps.{and_then-ok, bytes_in, number-bytes}
use Rattle.bitstream_value.proofs.ByteGrowsLemmas.{byte_parts-suc}

-- these bytes are taken, whatever follows, and this is returned
abbrev pub BytesBack : {A : Type 0} → ByteDecoder A → List ℕ → A → Type 0
BytesBack e taken a = (more : List ℕ) → e.reads (taken ++ more) ≡ Done (length taken) (Ok a)

-- n bytes
pub given-back : (n : ℕ) (x : List ℕ) → length x ≡ n → BytesBack (given_bytes n) x x
unfolding given_bytes
given-back n x len = λ more. byte_prefix-some n (λ w. Ok w) x more len ∙ ap (λ k. Done k (Ok x)) (sym len)

-- no read at all
pub nothing-back : {A : Type 0} (a : A) → BytesBack (byte_pure a) [] a
nothing-back a = λ more. refl

-- one read and then another
pub and_then-back : {A B : Type 0} (e : ByteDecoder A) (f : A → ByteDecoder B) (u v : List ℕ) (a : A) (b : B)
    → BytesBack e u a → BytesBack (f a) v b → BytesBack (byte_and_then e f) (u ++ v) b
and_then-back e f u v a b first second = λ more.
    rw (append_assoc u v more, length-append u v)
    (and_then-ok e f u (v ++ more) a (Done (length v) (Ok b)) (first (v ++ more)) (second more))

-- a read whose result goes into another
pub made-back : {A B : Type 0} (e : ByteDecoder A) (f : A → B) (u : List ℕ) (a : A) → BytesBack e u a
    → BytesBack (byte_and_then e (λ x. byte_pure (f x))) u (f a)
made-back e f u a first =
    subst (λ w. BytesBack (byte_and_then e (λ x. byte_pure (f x))) w (f a)) (append-nil u)
    (and_then-back e (λ x. byte_pure (f x)) u [] a (f a) first (nothing-back (f a)))

length-bytes_in : (o : Order) (n v : ℕ) → length (bytes_in o n v) ≡ n
length-bytes_in High n v = length-bytes High n v
length-bytes_in Low n v = length-bytes Low n v

-- a number of n bytes
pub number-back : (o : Order) (n v : ℕ) → v < 2 ^ (8 * n)
    → BytesBack (number_bytes o n) (bytes_in o n v) v
unfolding number_bytes
number-back o n v fits =
    subst (λ x. BytesBack (number_bytes o n) (bytes_in o n v) x) (number-bytes o n v fits)
    (made-back (given_bytes n) (λ w. number o (bits o w)) (bytes_in o n v) (bytes_in o n v)
    (given-back n (bytes_in o n v) (length-bytes_in o n v)))

-- a part with errors of its own, which returns none, and what is after it
pub byte_part-back : {A B E : Type 0} (e : ByteDecoder (Result A E)) (f : A → ByteDecoder (Result B E))
    (u v : List ℕ) (a : A) (b : Result B E) → BytesBack e u (Ok a) → BytesBack (f a) v b
    → BytesBack (byte_and_then e (byte_part_then f)) (u ++ v) b
byte_part-back e f u v a b first second = and_then-back e (byte_part_then f) u v (Ok a) b first second

module _ {A E : Type 0} (e : ByteDecoder (Result A E)) (writes : A → List ℕ) where
  part-behind : (n : ℕ) (w u : List ℕ) (xs : List A) (x : A) → BytesBack (byte_parts e n) w (Ok xs)
      → BytesBack e u (Ok x) → BytesBack (byte_parts e (suc n)) (w ++ u) (Ok (xs ++ x ∷ []))
  part-behind n w u xs x h k =
      let last = byte_part-back e (λ y. byte_stores (Ok (xs ++ y ∷ []))) u [] x (Ok (xs ++ x ∷ [])) k
      (λ more. refl) in
      let behind = subst (λ l. BytesBack (byte_and_then e (byte_part_then (λ y. byte_stores (Ok (xs ++ y ∷ []))))) l
      (Ok (xs ++ x ∷ []))) (append-nil u) last in
      rw (byte_parts-suc e n)
      (byte_part-back (byte_parts e n) (λ ys. byte_and_then e (byte_part_then (λ y. byte_stores (Ok (ys ++ y ∷ [])))))
      w u xs (Ok (xs ++ x ∷ [])) h behind)

  parts-behind : (n : ℕ) (w : List ℕ) (xs ys : List A) → BytesBack (byte_parts e n) w (Ok xs)
      → AllByRecursion (λ y. BytesBack e (writes y) (Ok y)) ys
      → BytesBack (byte_parts e (n + length ys)) (w ++ flat_map writes ys) (Ok (xs ++ ys))
  parts-behind n w xs [] h all =
      let sum : n + 0 ≡ n = omega arith in
      rw (sum, append-nil w, append-nil xs) h
  parts-behind n w xs (y ∷ ys) h all =
      let sum : n + suc (length ys) ≡ suc n + length ys = omega arith in
      rw (sum, ← append_assoc w (writes y) (flat_map writes ys), ← append_assoc xs (y ∷ []) ys)
      (parts-behind (suc n) (w ++ writes y) (xs ++ y ∷ []) ys (part-behind n w (writes y) xs y h all.0) all.1)

  -- parts that were written one by one
  pub byte_parts-back : (xs : List A) → All (λ x. BytesBack e (writes x) (Ok x)) xs
      → BytesBack (byte_parts e (length xs)) (flat_map writes xs) (Ok xs)
  unfolding byte_parts
  byte_parts-back xs all =
      let sum : 0 + length xs ≡ length xs = omega arith in
      subst (λ n. BytesBack (byte_parts e n) (flat_map writes xs) (Ok xs)) sum
      (parts-behind 0 [] [] xs (λ more. refl) (recursion_from_All (λ x. BytesBack e (writes x) (Ok x)) xs all))
