-- Shifts: by the size of a type or more, and of signed numbers.
use Rattle.std.specs.Prelude.{ℤ, pos, negsuc, ◌+ℤ◌, ◌*ℤ◌, ◌<ℤ◌, neg_ℤ}
use Rattle.std.specs.Int.{int_shr}
use Rattle.std.proofs.lemmas.Int.{ints}
use Rattle.std.proofs.Common.{◌≡◌, ℕ, zero, suc, mod-lt, ◌+◌, ◌-◌, ◌*◌, ◌/◌, ◌%◌, ◌^◌, ◌<◌, ◌≤◌, ap, sym, ◌∙◌, arith, lt_of_lt_of_le}
use Rattle.std.proofs.Math.Nat.{mul_assoc, mul-mod_left, div-eq_of_lt, pow-le-pow_right}
use Rattle.std.proofs.lemmas.Nat.{pow-add, pow_pos, shr_split}

pub shl_past : (a j k : ℕ) → j ≤ k → a * 2 ^ k % 2 ^ j ≡ 0
shl_past a j k h =
    let e : k ≡ (k - j) + j = omega arith in
    let p : a * 2 ^ k ≡ (a * 2 ^ (k - j)) * 2 ^ j = ap (λ m. a * m) (ap (λ i. 2 ^ i) e ∙ pow-add 2 (k - j) j)
    ∙ sym (mul_assoc a (2 ^ (k - j)) (2 ^ j)) in
    ap (λ m. m % 2 ^ j) p ∙ mul-mod_left (a * 2 ^ (k - j)) (2 ^ j)

pub shr_past : (a j k : ℕ) → a < 2 ^ j → j ≤ k → a / 2 ^ k ≡ 0
shr_past a j k f h = div-eq_of_lt (lt_of_lt_of_le f (pow-le-pow_right (omega arith) h))

-- ---- signed numbers, rounded down

below_neg : (a k : ℕ) → k ≤ a → negsuc a <ℤ neg_ℤ (pos k)
below_neg a zero le = omega (arith, ints)
below_neg a (suc j) le = omega (arith, ints)

above_neg : (q a m : ℕ) → q * m ≤ a → negsuc a <ℤ ((negsuc q +ℤ pos 1) *ℤ pos m)
above_neg zero a m le = omega (arith, ints)
above_neg (suc p) a m le =
    let next : negsuc (suc p) +ℤ pos 1 ≡ negsuc p = omega (arith, ints) in
    rw next (below_neg a (suc p * m) le)

pub int_shr-lt : (x : ℤ) (k : ℕ) → x <ℤ ((int_shr x k +ℤ pos 1) *ℤ pos (2 ^ k))
int_shr-lt (pos a) k =
    let below : a < (a / 2 ^ k + 1) * 2 ^ k = omega (arith, shr_split a k, mod-lt a (pow_pos k)) in
    omega (arith, ints)
int_shr-lt (negsuc a) k = above_neg (a / 2 ^ k) a (2 ^ k) (omega (arith, shr_split a k))
