-- A signed number fits in n bits if all bits above its lowest n - 1 bits equal its sign bit.
use Rattle.std.specs.Prelude.{ℤ, pos, negsuc, ◌≢◌}
use Rattle.std.specs.Int.{int_shr}
use Rattle.std.proofs.Common.{◌≡◌, ℕ, ◌-◌, ◌*◌, ◌/◌, ◌^◌, ◌<◌, ◌≤◌, ◌⊎◌, inl, inr, ap, sym, ◌∙◌, arith, mod-lt}
use Rattle.std.proofs.Math.IntN.{pos-ne-negsuc}
use Rattle.std.proofs.Math.Nat.{div-eq_of_lt, pow-le-pow_right, zero-mul}
use Rattle.std.proofs.lemmas.Nat.{pow_pos, shr_split}
use Rattle.std.proofs.lemmas.Bool.{cases_lt}
use Rattle.bitstream_number.specs.Word.{FitsSignedBits}
use Rattle.bitstream_count.specs.Checks.{ExceedsSignedBits}
use lib.Signed.{mag}

below_of_zero : (a k : ℕ) → a / 2 ^ k ≡ 0 → a < 2 ^ k
below_of_zero a k e =
    let split = shr_split a k in
    let low = mod-lt a (pow_pos k) in
    let none : a / 2 ^ k * 2 ^ k ≡ 0 = ap (λ q. q * 2 ^ k) e ∙ zero-mul (2 ^ k) in
    omega arith

pub FitsSignedBits-int_shr : (x r : ℤ) (n : ℕ) → r ≡ int_shr x (n - 1) → (r ≡ pos 0) ⊎ (r ≡ negsuc 0)
    → FitsSignedBits n x
FitsSignedBits-int_shr (pos a) r n e (inl z) = below_of_zero a (n - 1) (ap mag (sym e ∙ z))
FitsSignedBits-int_shr (pos a) r n e (inr z) = absurd (pos-ne-negsuc _ _ (sym e ∙ z))
FitsSignedBits-int_shr (negsuc a) r n e (inl z) = absurd (pos-ne-negsuc _ _ (sym z ∙ e))
FitsSignedBits-int_shr (negsuc a) r n e (inr z) = below_of_zero a (n - 1) (ap mag (sym e ∙ z))

pub ExceedsSignedBits-int_shr : (x r : ℤ) (n : ℕ) → r ≡ int_shr x (n - 1) → r ≢ pos 0 → r ≢ negsuc 0
    → ExceedsSignedBits n x
ExceedsSignedBits-int_shr (pos a) r n e some other = elim (cases_lt a (2 ^ (n - 1))) [
  | inl small ↦ absurd (some (e ∙ ap pos (div-eq_of_lt small)))
  | inr large ↦ large
]
ExceedsSignedBits-int_shr (negsuc a) r n e some other = elim (cases_lt a (2 ^ (n - 1))) [
  | inl small ↦ absurd (other (e ∙ ap negsuc (div-eq_of_lt small)))
  | inr large ↦ large
]

-- the greatest number of n bits below the sign is one of a type of `size` bits
pub lowest-lt : (v n size : ℕ) → n ≤ size → v ≡ 2 ^ (n - 1) - 1 → v < 2 ^ (size - 1)
lowest-lt v n size h e =
    let less : n - 1 ≤ size - 1 = omega arith in
    let power : 2 ^ (n - 1) ≤ 2 ^ (size - 1) = pow-le-pow_right (omega arith) less in
    omega (arith, pow_pos (n - 1))
