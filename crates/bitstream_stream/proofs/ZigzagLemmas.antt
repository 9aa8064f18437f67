-- The order 0, -1, 1, -2, 2, .., by shifts.
use Rattle.std.specs.Prelude.{ℤ, pos, negsuc, ◌+ℤ◌, ◌-ℤ◌, ◌<ℤ◌, bit_and}
use Rattle.std.proofs.Common.{◌≡◌, ◌≢◌, ℕ, ◌-◌, ◌*◌, ◌/◌, ◌%◌, ◌^◌, ◌<◌, ◌≤◌, pow_pos, ap, ◌∙◌, arith}
use Rattle.std.proofs.Math.Nat.{mod-eq_of_lt}
use Rattle.std.proofs.lemmas.Int.{ints}
use Rattle.std.proofs.lemmas.Nat.{and_mask}
use Rattle.bitstream_number.specs.Word.{FitsSignedBits, zig, zag}
use Rattle.bitstream_number.proofs.WordLemmas.{half}
use Rattle.bitstream_order.proofs.Moving.SignLemmas.{rest_of, negative-is}
use lib.Signed.{mag, ◌≤ℤ◌}

-- twice a number that is below half of the numbers of n bits
shifted_is : (n k m s : ℕ) → k ≡ n → 1 ≤ n → m < 2 ^ (n - 1) → s ≡ m * 2 ^ 1 % 2 ^ k → s ≡ 2 * m
shifted_is n k m s same some small is =
    let below : m * 2 ^ 1 < 2 ^ n = omega (arith, half n some) in
    is ∙ ap (λ j. m * 2 ^ 1 % 2 ^ j) same ∙ mod-eq_of_lt below ∙ omega arith

pub negative_place : (n k m s r : ℕ) (x : ℤ) → k ≡ n → 1 ≤ n → FitsSignedBits n x → x <ℤ pos 0 → pos m
    ≡ x +ℤ pos (2 ^ (n - 1)) → s ≡ m * 2 ^ 1 % 2 ^ k → r ≡ 2 ^ k - 1 - s → r ≡ zig x
negative_place n k m s r (pos a) same some fits below is shifted turned = absurd (omega (arith, ints))
negative_place n k m s r (negsuc a) same some fits below is shifted turned =
    let rest = rest_of a m (2 ^ (n - 1)) fits is in
    let small : m < 2 ^ (n - 1) = omega (arith, rest, fits) in
    omega (arith, turned, ap (λ j. 2 ^ j) same, shifted_is n k m s same some small shifted, rest, half n some, fits)

pub other_place : (n k m s : ℕ) (x : ℤ) → k ≡ n → 1 ≤ n → FitsSignedBits n x → pos m ≡ x → s ≡ m * 2 ^ 1 % 2 ^ k → s
    ≡ zig x
other_place n k m s (pos a) same some fits is shifted =
    let number : m ≡ a = ap mag is in
    let small : m < 2 ^ (n - 1) = omega (arith, number, fits) in
    shifted_is n k m s same some small shifted ∙ ap (λ j. 2 * j) number
other_place n k m s (negsuc a) same some fits is shifted = absurd (omega (arith, ints))

-- ---- and back

-- half of a number of n bits is below half of the numbers of n bits
pub half_below : (n q r : ℕ) → 1 ≤ n → q < 2 ^ n → r ≡ q / 2 ^ 1 → r < 2 ^ (n - 1)
half_below n q r some below shifted = omega (arith, half n some)

-- a number of n bits with each bit turned
pub turned_below : (n p q : ℕ) → q ≡ 2 ^ n - 1 - p → q < 2 ^ n
turned_below n p q turned = omega (arith, pow_pos n)

-- the lowest bit of p
low_bit : (p one b : ℕ) → one ≡ 1 → b ≡ bit_and p one → b ≡ p % 2
low_bit p one b same bit = bit ∙ ap (bit_and p) same ∙ and_mask p 1

-- an even place
pub even_back : (p one b r : ℕ) (x : ℤ) → one ≡ 1 → b ≡ bit_and p one → b ≡ 0 → r ≡ p / 2 ^ 1 → x ≡ pos r
    → x ≡ zag p
even_back p one b r x same bit none shifted is =
    let low = low_bit p one b same bit in
    let even : p % 2 ≡ 0 = omega arith in
    rw even (is ∙ ap pos shifted)

-- an odd place
pub odd_back : (k n p one b q r : ℕ) (x : ℤ) → k ≡ n → 1 ≤ n → p < 2 ^ n → one ≡ 1 → b ≡ bit_and p one → b ≢ 0 → q
    ≡ 2 ^ n - 1 - p → r ≡ q / 2 ^ 1 → x ≡ pos r -ℤ pos (2 ^ (k - 1)) → x ≡ zag p
odd_back k n p one b q r x size some below same bit set turned shifted is =
    let low = low_bit p one b same bit in
    let odd : p % 2 ≡ 1 = omega arith in
    let small = half_below n q r some (turned_below n p q turned) shifted in
    let place : 2 ^ (n - 1) - 1 - r ≡ p / 2 = omega (arith, half n some) in
    rw odd (is ∙ ap (λ j. pos r -ℤ pos (2 ^ (j - 1))) size ∙ negative-is r _ small ∙ ap negsuc place)

-- a number below 0 that fits n bits is at least - 2 ^ (n - 1)
pub above_least : (n : ℕ) (x : ℤ) → FitsSignedBits n x → x <ℤ pos 0 → pos 0 ≤ℤ (x +ℤ pos (2 ^ (n - 1)))
above_least n (pos a) fits below = absurd (omega (arith, ints))
above_least n (negsuc a) fits below = omega (arith, ints)
