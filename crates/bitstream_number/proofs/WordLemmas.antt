-- Encodings: their lengths, the numbers that they represent, and how they split.
use Rattle.std.proofs.Common.{◌≡◌, ℕ, zero, suc, ◌+◌, ◌-◌, ◌*◌, ◌/◌, ◌%◌, ◌^◌, ◌<◌, ◌≤◌, ◌⊎◌, Bool, true, false, eqb, List, [], ◌∷◌, ◌++◌, length, reverse, refl, sym, ap, ap₂, ◌∙◌, subst, arith, inl, inr}
use Rattle.std.specs.List.{flat_map}
use Rattle.std.specs.Int.{byte_at, bytes_high_first}
use Rattle.std.specs.Int.Digits.{digits_of}
use Rattle.std.proofs.lemmas.Int.Digits.{number_lt, number_digits_of, all_below_base_digits_of, length-digits_of-le}
use Rattle.std.proofs.Math.Nat.{suc-add, add_comm, div-one, mod-eq_of_lt, mod-lt, mod-one, pow-suc, two-pow-succ, zero-add, zero-mul}
use Rattle.std.proofs.Math.Numerals.{one-add}
use Rattle.std.proofs.lemmas.List.{reverse-append, reverse-reverse, length-reverse, length-append, append-nil}
use mathlib.Core.List.{reverse-cons}
use Rattle.std.proofs.lemmas.List.Concat.{flat_map-append}
use Rattle.std.proofs.lemmas.Nat.{shr-shr, shr_split, shr_high, mod-pow-add, pow-add}
use Rattle.std.proofs.lemmas.Nat.Bits.{bit_at_cat_low}
use Rattle.bitstream_number.specs.Word.{Order, High, Low, digits, in_order, concat_in, word, digit_value, digits_number, number, bits, bytes, count_width}

-- ---- digits, the highest first

-- the numbers of n bits are twice as many as those of n - 1 bits
pub half : (n : ℕ) → 0 < n → 2 ^ (n - 1) + 2 ^ (n - 1) ≡ 2 ^ n
half n some =
    let e : n ≡ suc (n - 1) = omega arith in
    sym (two-pow-succ (n - 1)) ∙ ap (λ k. 2 ^ k) (sym e)

pub length-digits : (n v : ℕ) → length (digits n v) ≡ n
unfolding digits
length-digits zero v = refl
length-digits (suc n) v = ap suc (length-digits n v)

digits-zero : (v : ℕ) → digits 0 v ≡ []
unfolding digits
digits-zero v = refl

pub digits-add : (a b v : ℕ) → digits (a + b) v ≡ digits a (v / 2 ^ b) ++ digits b v
unfolding digits
digits-add zero b v = rw zero-add refl
digits-add (suc a) b v =
    let high : v / 2 ^ b / 2 ^ a ≡ v / 2 ^ (a + b) = shr-shr v b a ∙ ap (λ k. v / 2 ^ k) (add_comm b a) in
    rw (suc-add a b, ← high, digits-add a b v) refl

-- the n lowest digits of a number do not depend on its digits from k on, where k is at least n
digits_low : (n k a b : ℕ) → n ≤ k → digits n (a * 2 ^ k + b) ≡ digits n b
unfolding digits
digits_low zero k a b le = refl
digits_low (suc n) k a b le =
    let below : n < k = le in
    let rest : digits n (a * 2 ^ k + b) ≡ digits n b = digits_low n k a b (omega arith) in
    rw (bit_at_cat_low a k b n below, rest) refl

pub digits-mod : (n v : ℕ) → digits n (v % 2 ^ n) ≡ digits n v
digits-mod n v = sym (digits_low n n (v / 2 ^ n) (v % 2 ^ n) (omega arith)) ∙ ap (digits n) (shr_split v n)

cases_two : (n : ℕ) → n < 2 → (n ≡ 0) ⊎ (n ≡ 1)
cases_two n h = grind arith

digit_value_of : (x : ℕ) → digit_value (eqb (x % 2) 1) ≡ x % 2
digit_value_of x = elim (cases_two (x % 2) (mod-lt x (omega arith))) [ inl e ↦ rw e refl | inr e ↦ rw e refl ]

pub number-digits : (n v : ℕ) → digits_number (digits n v) ≡ v % 2 ^ n
unfolding digits digits_number
number-digits zero v = sym (mod-one v)
number-digits (suc n) v = rw (length-digits n v, number-digits n v, digit_value_of (v / 2 ^ n)) (sym (mod-pow-add v 1 n)
    ∙ ap (λ k. v % 2 ^ k) (one-add n))

pub number_below : (w : List Bool) → digits_number w < 2 ^ length w
unfolding digits_number
number_below [] = omega arith
number_below (true ∷ w) = let h = number_below w in omega (arith, h, pow-suc 2 (length w))
number_below (false ∷ w) = let h = number_below w in omega (arith, h, pow-suc 2 (length w))

digit-value : (b : Bool) → eqb (digit_value b % 2) 1 ≡ b
digit-value true = refl
digit-value false = refl

pub number-append : (u w : List Bool) → digits_number (u ++ w) ≡ digits_number u * 2 ^ length w + digits_number w
unfolding digits_number
number-append [] w = rw (zero-mul, zero-add) refl
number-append (b ∷ u) w =
    let len : 2 ^ length (u ++ w) ≡ 2 ^ length u * 2 ^ length w = ap (λ k. 2 ^ k) (length-append u w)
    ∙ pow-add 2 (length u) (length w) in
    rw (len, number-append u w) (omega arith)

pub digits-number : (w : List Bool) → digits (length w) (digits_number w) ≡ w
unfolding digits digits_number
digits-number [] = refl
digits-number (b ∷ w) =
    let n = length w in
    let low = digits_low n n (digit_value b) (digits_number w) (omega arith) ∙ digits-number w in
    rw (low, shr_high (digit_value b) n (digits_number w) (number_below w), digit-value b) refl

-- ---- the two orders

pub in_order-twice : {A : Type 0} (o : Order) (xs : List A) → in_order o (in_order o xs) ≡ xs
in_order-twice High xs = refl
in_order-twice Low xs = reverse-reverse xs

pub length-in_order : {A : Type 0} (o : Order) (xs : List A) → length (in_order o xs) ≡ length xs
length-in_order High xs = refl
length-in_order Low xs = length-reverse xs

pub in_order-append : {A : Type 0} (o : Order) (xs ys : List A) → in_order o (xs ++ ys)
    ≡ concat_in o (in_order o xs) (in_order o ys)
in_order-append High xs ys = refl
in_order-append Low xs ys = reverse-append xs ys

-- ---- encodings

pub length-word : (o : Order) (n v : ℕ) → length (word o n v) ≡ n
length-word o n v = length-in_order o (digits n v) ∙ length-digits n v

pub word-add : (o : Order) (a b v : ℕ) → word o (a + b) v ≡ concat_in o (word o a (v / 2 ^ b)) (word o b v)
word-add o a b v = ap (in_order o) (digits-add a b v) ∙ in_order-append o (digits a (v / 2 ^ b)) (digits b v)

-- the encoding of a number that is made of two numbers
pub word_cat : (o : Order) (a b u v : ℕ) → v < 2 ^ b → word o (a + b) (u * 2 ^ b + v)
    ≡ concat_in o (word o a u) (word o b v)
word_cat o a b u v small =
    word-add o a b (u * 2 ^ b + v)
    ∙ ap₂ (concat_in o) (ap (word o a) (shr_high u b v small)) (ap (in_order o) (digits_low b b u v (omega arith)))

pub word-mod : (o : Order) (n v : ℕ) → word o n (v % 2 ^ n) ≡ word o n v
word-mod o n v = ap (in_order o) (digits-mod n v)

pub number-word : (o : Order) (n v : ℕ) → number o (word o n v) ≡ v % 2 ^ n
number-word o n v = ap digits_number (in_order-twice o (digits n v)) ∙ number-digits n v

pub number-joined : (o : Order) (high low : List Bool) → number o (concat_in o high low)
    ≡ number o high * 2 ^ length low + number o low
number-joined High high low = number-append high low
number-joined Low high low = rw (
  reverse-append low high,
  number-append (reverse high) (reverse low),
  length-reverse low,
) refl

pub word-number : (o : Order) (w : List Bool) → word o (length w) (number o w) ≡ w
word-number o w = rw (← length-in_order o w, digits-number (in_order o w)) (in_order-twice o w)

pub number-lt : (o : Order) (w : List Bool) → number o w < 2 ^ length w
number-lt o w = rw (← length-in_order o w) (number_below (in_order o w))

pub same_from_word : (o : Order) (n u v : ℕ) → u < 2 ^ n → v < 2 ^ n → word o n u ≡ word o n v → u ≡ v
same_from_word o n u v p q e =
    sym (mod-eq_of_lt p) ∙ sym (number-word o n u) ∙ ap (number o) e ∙ number-word o n v ∙ mod-eq_of_lt q

-- ---- bits of bytes

flat_map-reverse : {X A : Type 0} (f : X → List A) (xs : List X) → flat_map (λ x. reverse (f x)) (reverse xs)
    ≡ reverse (flat_map f xs)
flat_map-reverse f [] = refl
flat_map-reverse f (x ∷ xs) =
    rw (
      reverse-cons x xs,
      flat_map-append (λ y. reverse (f y)) (reverse xs) (x ∷ []),
      flat_map-reverse f xs,
      append-nil (reverse (f x)),
      ← reverse-append (f x) (flat_map f xs),
    ) refl

pub bits-append : (o : Order) (xs ys : List ℕ) → bits o (xs ++ ys) ≡ bits o xs ++ bits o ys
bits-append o xs ys = flat_map-append (word o 8) xs ys

pub length-bits : (o : Order) (xs : List ℕ) → length (bits o xs) ≡ 8 * length xs
length-bits o [] = refl
length-bits o (x ∷ xs) = rw (length-append (word o 8 x) (bits o xs), length-word o 8 x, length-bits o xs) (omega arith)

pow_256 : (i : ℕ) → 256 ^ i ≡ 2 ^ (8 * i)
pow_256 zero = refl
pow_256 (suc i) = rw (pow-suc 256 i, pow_256 i) (sym (pow-add 2 (8 * i) 8) ∙ ap (λ n. 2 ^ n) (omega arith))

byte_is : (i v : ℕ) → byte_at i v ≡ v / 2 ^ (8 * i) % 2 ^ 8
byte_is zero v = ap (λ n. n % 256) (sym (div-one v))
byte_is (suc i) v = ap (λ n. v / n % 256) (pow_256 (suc i))

bits_high : (n v : ℕ) → flat_map (digits 8) (bytes_high_first n v) ≡ digits (8 * n) v
bits_high zero v = sym (digits-zero v)
bits_high (suc n) v =
    let first = ap (digits 8) (byte_is n v) ∙ digits-mod 8 (v / 2 ^ (8 * n)) in
    rw (first, bits_high n v, ← digits-add 8 (8 * n) v) (ap (λ k. digits k v) (omega arith))

pub bits-bytes : (o : Order) (n v : ℕ) → bits o (bytes o n v) ≡ word o (8 * n) v
bits-bytes High n v = bits_high n v
bits-bytes Low n v = flat_map-reverse (digits 8) (bytes_high_first n v) ∙ ap reverse (bits_high n v)

-- two numbers of n bits are equal if their bytes are equal
pub same_from_bytes : (o : Order) (n k u v : ℕ) → n ≡ 8 * k → u < 2 ^ n → v < 2 ^ n → bytes o k u ≡ bytes o k v → u ≡ v
same_from_bytes o n k u v size p q e =
    let same : word o (8 * k) u ≡ word o (8 * k) v = sym (bits-bytes o k u) ∙ ap (bits o) e ∙ bits-bytes o k v in
    same_from_word o n u v p q (subst (λ j. word o j u ≡ word o j v) (sym size) same)

row_2 : word Low 5 177 ≡ true ∷ false ∷ false ∷ false ∷ true ∷ []
unfolding digits
row_2 = refl

-- ---- counts

pub count_fits : (max : ℕ) → max < 2 ^ count_width max
count_fits max = subst (λ n. n < 2 ^ count_width max) (number_digits_of 2 max (omega arith))
    (number_lt 2 (digits_of 2 max) (all_below_base_digits_of 2 max (omega arith)))

pub count_width_least : (max n : ℕ) → max < 2 ^ n → count_width max ≤ n
count_width_least max n below = length-digits_of-le 2 n max (omega arith) below
