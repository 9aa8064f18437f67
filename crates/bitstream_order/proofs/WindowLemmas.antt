-- Bits in the middle of a number, and runs of its digits.
use Rattle.std.specs.Prelude.{◌==◌, bit_and}
use Rattle.std.proofs.Common.{◌≡◌, ℕ, zero, suc, ◌+◌, ◌-◌, ◌*◌, ◌/◌, ◌%◌, ◌^◌, ◌<◌, ◌≤◌, Bool, true, false, not, List, [], ◌∷◌, ◌++◌, length, drop, map, reverse, replicate, refl, sym, ap, ap₂, ◌∙◌, arith, append-nil, inl, inr, ◌⊎◌, w64, mod-lt, add-zero, div-le_self}
use Rattle.std.specs.Int.{bit_at, bit_not}
use Rattle.std.specs.Int.Count.{count_leading_zeros, count_trailing_zeros, leading_of_zero, under}
use mathlib.Core.List.{reverse-cons}
use Rattle.std.proofs.Math.Nat.{mod-eq_of_lt, div-eq_of_lt, zero-div, div-one, two-pow-succ, pow-le-pow_right}
use Rattle.std.proofs.Math.Seq.{drop-append_seam}
use Rattle.std.proofs.lemmas.Nat.{pow_pos, pow-add, shl-shr, shr-shr, field_of, leading_top, shr_high, and_mask}
use Rattle.std.proofs.lemmas.Nat.Bits.{bit_at_not}
use Rattle.std.proofs.lemmas.List.{length-drop, map-append}
use Rattle.bitstream_count.specs.Unary.{lead}
use Rattle.bitstream_count.proofs.UnaryLemmas.{lead-others}
use Rattle.bitstream_number.specs.Word.{Order, High, Low, digits, word}
use Rattle.bitstream_number.proofs.WordLemmas.{digits-add, word-add, word-mod, length-word}

-- ---- bits in the middle

-- k of s bits, of which n went off the prefix
pub middle_high : (v n k s : ℕ) → n + k ≤ s → v * 2 ^ n % 2 ^ s / 2 ^ (s - k) ≡ v / 2 ^ (s - (n + k)) % 2 ^ k
middle_high v n k s le =
    let r = s - (n + k) in
    let j = s - k in
    let whole : s ≡ k + j = omega arith in
    let sum : j ≡ n + r = omega arith in
    ap (λ i. v * 2 ^ n % 2 ^ i / 2 ^ j) whole ∙ field_of (v * 2 ^ n) k j
    ∙ ap (λ x. x % 2 ^ k) (ap (λ i. v * 2 ^ n / 2 ^ i) sum ∙ sym (shr-shr (v * 2 ^ n) n r)
    ∙ ap (λ x. x / 2 ^ r) (shl-shr v n))

-- a shift by one and then by the rest
pub two_shifts : (x n : ℕ) → n < 64 → x / 2 / 2 ^ (63 - n) ≡ x / 2 ^ (64 - n)
two_shifts x n few =
    let sum : 1 + (63 - n) ≡ 64 - n = omega arith in
    shr-shr x 1 (63 - n) ∙ ap (λ k. x / 2 ^ k) sum

-- the lowest bits by a mask
pub masked : (x n : ℕ) → n < 64 → bit_and x (1 * 2 ^ n % 18446744073709551616 - 1) ≡ x % 2 ^ n
masked x n few =
    let le : n + 1 ≤ 64 = omega arith in
    let top : 2 ^ (n + 1) ≤ 2 ^ 64 = pow-le-pow_right (omega arith) le in
    let twice : 2 ^ (n + 1) ≡ 2 ^ n * 2 = pow-add 2 n 1 in
    let some : 0 < 2 ^ n = pow_pos n in
    let one : 1 * 2 ^ n ≡ 2 ^ n = omega arith in
    let small : 2 ^ n < 18446744073709551616 = omega (arith, top, twice, some) in
    ap (λ m. bit_and x (m - 1)) (ap (λ m. m % 18446744073709551616) one ∙ mod-eq_of_lt small) ∙ and_mask x n

-- ---- digits that are turned

none_or_one : (n : ℕ) → n < 2 → (n ≡ 0) ⊎ (n ≡ 1)
none_or_one n h = grind arith

turned_digit : (x y : ℕ) → y < 2 → x ≡ 1 - y → (x == 1) ≡ not (y == 1)
turned_digit x y few is = elim (none_or_one y few) [
  | inl none ↦ rw (is, none) refl
  | inr one ↦ rw (is, one) refl
]

-- the digits of a number of 64 bits, each turned
turned_digits : (n v : ℕ) → n ≤ 64 → v < 2 ^ 64 → digits n (bit_not w64 v) ≡ map not (digits n v)
unfolding digits
turned_digits zero v le below = refl
turned_digits (suc n) v le below =
    let less : n < 64 = omega arith in
    let one = turned_digit (bit_at (bit_not w64 v) n) (bit_at v n) (mod-lt (v / 2 ^ n) (omega arith)) (bit_at_not w64 v n below less) in
    ap₂ (λ b w. b ∷ w) one (turned_digits n v (omega arith) below)

map-reverse : (w : List Bool) → reverse (map not w) ≡ map not (reverse w)
map-reverse [] = refl
map-reverse (b ∷ w) =
    reverse-cons (not b) (map not w) ∙ ap (λ x. x ++ not b ∷ []) (map-reverse w)
    ∙ sym (ap (map not) (reverse-cons b w) ∙ map-append not (reverse w) (b ∷ []))

turned_word : (o : Order) (v : ℕ) → v < 2 ^ 64 → word o 64 (bit_not w64 v) ≡ map not (word o 64 v)
turned_word High v below = turned_digits 64 v (omega arith) below
turned_word Low v below = ap reverse (turned_digits 64 v (omega arith) below) ∙ map-reverse (digits 64 v)

-- the digits before the first 0 are the turned ones before the first 1
turned_lead : (w : List Bool) → lead true (map not w) ≡ lead false w
turned_lead [] = refl
turned_lead (true ∷ w) = ap suc (turned_lead w)
turned_lead (false ∷ w) = refl

-- ---- runs

-- a run that ends within the first part
pub lead-prefix : (stop : Bool) (x y : List Bool) → lead stop (x ++ y) < length x → lead stop x ≡ lead stop (x ++ y)
lead-prefix stop [] y h = absurd (omega arith)
lead-prefix true (true ∷ x) y h = refl
lead-prefix true (false ∷ x) y h = ap suc (lead-prefix true x y (omega arith))
lead-prefix false (true ∷ x) y h = ap suc (lead-prefix false x y (omega arith))
lead-prefix false (false ∷ x) y h = refl

pub lead-longer : (stop : Bool) (x y : List Bool) → lead stop x < length x → lead stop (x ++ y) ≡ lead stop x
lead-longer stop [] y h = absurd (omega arith)
lead-longer true (true ∷ x) y h = refl
lead-longer true (false ∷ x) y h = ap suc (lead-longer true x y (omega arith))
lead-longer false (true ∷ x) y h = ap suc (lead-longer false x y (omega arith))
lead-longer false (false ∷ x) y h = refl

pub digits-none : (n : ℕ) → digits n 0 ≡ replicate n false
unfolding digits
digits-none zero = refl
digits-none (suc n) = rw (zero-div (2 ^ n), digits-none n) refl

top_digit : (j a : ℕ) → 2 ^ j ≤ a → a < 2 ^ suc j → digits (suc j) a ≡ true ∷ digits j a
unfolding digits
top_digit j a least most =
    let twice : 2 ^ suc j ≡ 2 ^ j + 2 ^ j = two-pow-succ j in
    let b = a - 2 ^ j in
    let sum : a ≡ 1 * 2 ^ j + b = omega (arith, least) in
    let one : a / 2 ^ j ≡ 1 = ap (λ x. x / 2 ^ j) sum ∙ shr_high 1 j b (omega (arith, least, most, twice)) in
    rw one refl

pub leading_is : (k a : ℕ) → a < 2 ^ k → count_leading_zeros k a ≡ lead true (digits k a)
leading_is k zero below =
    leading_of_zero k
    ∙ sym (ap (lead true) (digits-none k ∙ sym (append-nil (replicate k false))) ∙ lead-others true k [] ∙ add-zero k)
leading_is k (suc a) below =
    let top = leading_top k (suc a) (omega arith) below in
    let r = count_leading_zeros k (suc a) in
    let j = top.0 in
    let sum : r + suc j ≡ k = top.1 in
    let none : suc a / 2 ^ suc j ≡ 0 = div-eq_of_lt top.3 in
    let parts : digits k (suc a) ≡ replicate r false ++ (true ∷ digits j (suc a)) =
    ap (λ n. digits n (suc a)) (sym sum) ∙ digits-add r (suc j) (suc a)
    ∙ ap₂ (λ x y. x ++ y) (ap (digits r) none ∙ digits-none r) (top_digit j (suc a) top.2 top.3) in
    sym (ap (lead true) parts ∙ lead-others true r (true ∷ digits j (suc a)) ∙ add-zero r)

trailing_step : (k a : ℕ) → count_trailing_zeros (suc k) a ≡ under (a % 2) (count_trailing_zeros k (a / 2))
unfolding count_trailing_zeros
trailing_step k a = refl

low_digit : (a d : ℕ) → a % 2 ≡ d → word Low 1 a ≡ (d == 1) ∷ []
unfolding digits
low_digit a d is = ap (λ x. (x % 2 == 1) ∷ []) (div-one a) ∙ ap (λ x. (x == 1) ∷ []) is

trailing_none : (a : ℕ) → count_trailing_zeros 0 a ≡ lead true (word Low 0 a)
unfolding count_trailing_zeros digits
trailing_none a = refl

pub trailing_is : (k a : ℕ) → count_trailing_zeros k a ≡ lead true (word Low k a)
trailing_is zero a = trailing_none a
trailing_is (suc k) a =
    let sum : suc k ≡ k + 1 = omega arith in
    let w = word Low k (a / 2) in
    let parts : word Low (suc k) a ≡ word Low 1 a ++ w = ap (λ n. word Low n a) sum ∙ word-add Low k 1 a in
    let rest = trailing_is k (a / 2) in
    elim (none_or_one (a % 2) (mod-lt a (omega arith))) [
      | inl none ↦
          trailing_step k a ∙ ap (λ d. under d (count_trailing_zeros k (a / 2))) none ∙ ap suc rest
          ∙ sym (ap (lead true) (parts ∙ ap (λ x. x ++ w) (low_digit a 0 none)))
      | inr one ↦
          trailing_step k a ∙ ap (λ d. under d (count_trailing_zeros k (a / 2))) one
          ∙ sym (ap (lead true) (parts ∙ ap (λ x. x ++ w) (low_digit a 1 one)))
    ]

-- a number whose encoding begins with the last bits of another number's encoding
begins_high : (v at : ℕ) → at ≤ 64
    → word High 64 (v * 2 ^ at % 2 ^ 64) ≡ drop at (word High 64 v) ++ word High at (v * 2 ^ at % 2 ^ 64)
begins_high v at le =
    let k = 64 - at in
    let sum : 64 ≡ k + at = omega arith in
    let turn : 64 ≡ at + k = omega arith in
    let w = v * 2 ^ at % 2 ^ 64 in
    let top : w / 2 ^ at ≡ v % 2 ^ k =
    ap (λ n. v * 2 ^ at % 2 ^ n / 2 ^ at) sum ∙ field_of (v * 2 ^ at) k at ∙ ap (λ x. x % 2 ^ k) (shl-shr v at) in
    let rest : drop at (word High 64 v) ≡ word High k v =
    ap (drop at) (ap (λ n. word High n v) turn ∙ word-add High at k v)
    ∙ ap (λ n. drop n (word High at (v / 2 ^ k) ++ word High k v)) (sym (length-word High at (v / 2 ^ k)))
    ∙ drop-append_seam (word High at (v / 2 ^ k)) (word High k v) in
    ap (λ n. word High n w) sum ∙ word-add High k at w
    ∙ ap (λ x. x ++ word High at w) (ap (word High k) top ∙ word-mod High k v ∙ sym rest)

begins_low : (v at : ℕ) → at ≤ 64
    → word Low 64 (v / 2 ^ at) ≡ drop at (word Low 64 v) ++ word Low at (v / 2 ^ at / 2 ^ (64 - at))
begins_low v at le =
    let k = 64 - at in
    let sum : 64 ≡ k + at = omega arith in
    let turn : 64 ≡ at + k = omega arith in
    let rest : drop at (word Low 64 v) ≡ word Low k (v / 2 ^ at) =
    ap (drop at) (ap (λ n. word Low n v) sum ∙ word-add Low k at v)
    ∙ ap (λ n. drop n (word Low at v ++ word Low k (v / 2 ^ at))) (sym (length-word Low at v))
    ∙ drop-append_seam (word Low at v) (word Low k (v / 2 ^ at)) in
    ap (λ n. word Low n (v / 2 ^ at)) turn ∙ word-add Low at k (v / 2 ^ at)
    ∙ ap (λ x. x ++ word Low at (v / 2 ^ at / 2 ^ k)) (sym rest)

pub rest_long : (o : Order) (v at : ℕ) → length (drop at (word o 64 v)) ≡ 64 - at
rest_long o v at = length-drop at (word o 64 v) ∙ ap (λ n. n - at) (length-word o 64 v)

-- a run that ends within the last bits of a number, from a number that begins with these bits
run_behind : (o : Order) (stop : Bool) (v at w r : ℕ) (y : List Bool) → at < 64
    → word o 64 w ≡ drop at (word o 64 v) ++ y → r ≡ lead stop (word o 64 w) → r + at < 64
    → r ≡ lead stop (drop at (word o 64 v))
run_behind o stop v at w r y few begins is within =
    let x = drop at (word o 64 v) in
    let parts = ap (lead stop) begins in
    let less : lead stop (x ++ y) < length x = omega (arith, is, parts, within, rest_long o v at) in
    is ∙ parts ∙ sym (lead-prefix stop x y less)

ones_of : (o : Order) (w r : ℕ) → w < 2 ^ 64 → r ≡ lead true (word o 64 (bit_not w64 w)) → r ≡ lead false (word o 64 w)
ones_of o w r below is = is ∙ ap (lead true) (turned_word o w below) ∙ turned_lead (word o 64 w)

pub zeros_high : (v at r : ℕ) → at < 64 → r ≡ count_leading_zeros 64 (v * 2 ^ at % 2 ^ 64) → r + at < 64
    → r ≡ lead true (drop at (word High 64 v))
zeros_high v at r few is within =
    let w = v * 2 ^ at % 2 ^ 64 in
    run_behind High true v at w r (word High at w) few (begins_high v at (omega arith))
    (is ∙ leading_is 64 w (mod-lt (v * 2 ^ at) (pow_pos 64))) within

pub ones_high : (v at r : ℕ) → at < 64 → r ≡ count_leading_zeros 64 (bit_not w64 (v * 2 ^ at % 2 ^ 64)) → r + at < 64
    → r ≡ lead false (drop at (word High 64 v))
ones_high v at r few is within =
    let w = v * 2 ^ at % 2 ^ 64 in
    let below = mod-lt (v * 2 ^ at) (pow_pos 64) in
    run_behind High false v at w r (word High at w) few (begins_high v at (omega arith))
    (ones_of High w r below (is ∙ leading_is 64 (bit_not w64 w) (omega (arith, below)))) within

pub zeros_low : (v at r : ℕ) → at < 64 → r ≡ count_trailing_zeros 64 (v / 2 ^ at) → r + at < 64
    → r ≡ lead true (drop at (word Low 64 v))
zeros_low v at r few is within =
    let w = v / 2 ^ at in
    run_behind Low true v at w r (word Low at (w / 2 ^ (64 - at))) few (begins_low v at (omega arith))
    (is ∙ trailing_is 64 w) within

pub ones_low : (v at r : ℕ) → at < 64 → v < 2 ^ 64 → r ≡ count_trailing_zeros 64 (bit_not w64 (v / 2 ^ at))
    → r + at < 64 → r ≡ lead false (drop at (word Low 64 v))
ones_low v at r few below is within =
    let w = v / 2 ^ at in
    let small : w ≤ v = div-le_self v (2 ^ at) in
    run_behind Low false v at w r (word Low at (w / 2 ^ (64 - at))) few (begins_low v at (omega arith))
    (ones_of Low w r (omega (arith, small, below)) (is ∙ trailing_is 64 (bit_not w64 w))) within
