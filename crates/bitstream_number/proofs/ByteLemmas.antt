-- The bytes with given bits.
use Rattle.std.proofs.Common.{◌≡◌, ℕ, zero, suc, ◌+◌, ◌*◌, ◌/◌, ◌^◌, ◌<◌, Bool, List, [], ◌∷◌, ◌++◌, length, take, drop, refl, sym, ap, ap₂, ◌∙◌, arith, mod-lt, length-take-le, length-drop}
use Rattle.std.specs.Int.{byte_at, bytes_high_first}
use Rattle.std.proofs.Math.Nat.{mod-eq_of_lt, suc-add, zero-add}
use Rattle.std.proofs.Math.Seq.{take-append_seam, drop-append_seam, take-length, drop-append-le}
use Rattle.std.proofs.lemmas.List.{nil_from_length, take-append-drop, take-append-le, length-reverse}
use Rattle.bitstream_number.specs.Word.{Order, High, Low, digits, digits_number, word, number, bits, bytes, bytes_of}
use Rattle.bitstream_number.proofs.Bytes.{AreBytes, AreBytes-reverse}
use Rattle.bitstream_number.proofs.WordLemmas.{length-word, number-word, word-number, bits-bytes}

-- ---- the first byte

prefix : (o : Order) (b : ℕ) (w : List Bool) → take 8 (word o 8 b ++ w) ≡ word o 8 b
prefix o b w = ap (λ k. take k (word o 8 b ++ w)) (sym (length-word o 8 b)) ∙ take-append_seam (word o 8 b) w

behind : (o : Order) (b : ℕ) (w : List Bool) → drop 8 (word o 8 b ++ w) ≡ w
behind o b w = ap (λ k. drop k (word o 8 b ++ w)) (sym (length-word o 8 b)) ∙ drop-append_seam (word o 8 b) w

first_byte : (o : Order) (b : ℕ) (w : List Bool) → b < 256 → number o (take 8 (word o 8 b ++ w)) ≡ b
first_byte o b w small = ap (number o) (prefix o b w) ∙ number-word o 8 b ∙ mod-eq_of_lt small

-- ---- there and back

pub length-bytes_of : (o : Order) (n : ℕ) (w : List Bool) → length (bytes_of o n w) ≡ n
unfolding bytes_of
length-bytes_of o zero w = refl
length-bytes_of o (suc n) w = ap suc (length-bytes_of o n (drop 8 w))

pub bytes_of-bits : (o : Order) (bs : List ℕ) → AreBytes bs → bytes_of o (length bs) (bits o bs) ≡ bs
unfolding bytes_of
bytes_of-bits o [] h = refl
bytes_of-bits o (b ∷ bs) h = ap₂ (λ x xs. x ∷ xs) (first_byte o b (bits o bs) h.0)
    (ap (bytes_of o (length bs)) (behind o b (bits o bs)) ∙ bytes_of-bits o bs h.1)

pub bits-bytes_of : (o : Order) (n : ℕ) (w : List Bool) → length w ≡ 8 * n → bits o (bytes_of o n w) ≡ w
unfolding bytes_of
bits-bytes_of o zero w e = sym (nil_from_length w e)
bits-bytes_of o (suc n) w e =
    let size : length (take 8 w) ≡ 8 = length-take-le 8 w (omega arith) in
    let less : length (drop 8 w) ≡ 8 * n = omega (arith, length-drop 8 w) in
    let first : word o 8 (number o (take 8 w)) ≡ take 8 w = ap (λ k. word o k (number o (take 8 w))) (sym size)
    ∙ word-number o (take 8 w) in
    ap₂ (λ x y. x ++ y) first (bits-bytes_of o n (drop 8 w) less) ∙ take-append-drop 8 w

pub bytes_of-append : (o : Order) (a b : ℕ) (u v : List Bool) → length u ≡ 8 * a → bytes_of o (a + b) (u ++ v)
    ≡ bytes_of o a u ++ bytes_of o b v
unfolding bytes_of
bytes_of-append o zero b u v e = rw (zero-add b, nil_from_length u e) refl
bytes_of-append o (suc a) b u v e =
    let less : length (drop 8 u) ≡ 8 * a = omega (arith, length-drop 8 u) in
    rw (
      suc-add a b,
      take-append-le 8 u v (omega arith),
      drop-append-le 8 u v (omega arith),
      bytes_of-append o a b (drop 8 u) v less,
    ) refl

pub bytes_of-one : (o : Order) (w : List Bool) → length w ≡ 8 → bytes_of o 1 w ≡ number o w ∷ []
unfolding bytes_of
bytes_of-one o w e = ap (λ k. number o (take k w) ∷ []) (sym e) ∙ ap (λ l. number o l ∷ []) (take-length w)

-- ---- the bytes of a number

byte-below : (i v : ℕ) → byte_at i v < 256
byte-below zero v = mod-lt v (omega arith)
byte-below (suc i) v = mod-lt (v / 256 ^ suc i) (omega arith)

high-bytes : (n v : ℕ) → AreBytes (bytes_high_first n v)
high-bytes zero v = tt
high-bytes (suc n) v = (byte-below n v, high-bytes n v)

length-high : (n v : ℕ) → length (bytes_high_first n v) ≡ n
length-high zero v = refl
length-high (suc n) v = ap suc (length-high n v)

pub AreBytes-bytes : (o : Order) (n v : ℕ) → AreBytes (bytes o n v)
AreBytes-bytes High n v = high-bytes n v
AreBytes-bytes Low n v = AreBytes-reverse (bytes_high_first n v) (high-bytes n v)

pub length-bytes : (o : Order) (n v : ℕ) → length (bytes o n v) ≡ n
length-bytes High n v = length-high n v
length-bytes Low n v = length-reverse (bytes_high_first n v) ∙ length-high n v

-- the bytes with given bits are the bytes of the number that these bits encode
pub bytes_of-number : (o : Order) (n : ℕ) (w : List Bool) → length w ≡ 8 * n → bytes_of o n w ≡ bytes o n (number o w)
bytes_of-number o n w e =
    let v = number o w in
    let all : bits o (bytes o n v) ≡ w = bits-bytes o n v ∙ ap (λ k. word o k v) (sym e) ∙ word-number o w in
    ap (bytes_of o n) (sym all) ∙ ap (λ k. bytes_of o k (bits o (bytes o n v))) (sym (length-bytes o n v))
    ∙ bytes_of-bits o (bytes o n v) (AreBytes-bytes o n v)

-- an example: the 16 bits after the first 4 bits of A3 41 2B
row_high : bytes_of High 2 (drop 4 (bits High (163 ∷ 65 ∷ 43 ∷ []))) ≡ 52 ∷ 18 ∷ []
unfolding bytes_of digits digits_number
row_high = refl
