-- Casts between the two types of a width.
use Rattle.std.specs.Prelude.{◌≡◌, ℕ, ℤ, pos, negsuc, suc, ◌-◌, ◌*◌, ◌%◌, ◌^◌, ◌<◌, ◌≤◌, ◌-ℤ◌}
use Rattle.std.specs.Int.{Width, w8, w16, w32, w64, w128, cast_unsigned, cast_signed}
use Rattle.std.proofs.Common.{refl, ap, ◌∙◌, arith}
use Rattle.std.proofs.Math.Nat.{pow-le-pow_right}
use Rattle.std.proofs.lemmas.Nat.{pow_pos, one_shl}
use Rattle.std.proofs.lemmas.Bool.{le-ltb}
use Rattle.std.proofs.lemmas.Int.{ints, of_z-to_z}
use Rattle.bitstream_number.specs.Ints.{half-one}
use mir.Val.{SFits, hbits, to_z, bits as bit_len}

next-half : (w : Width) → bit_len w ≡ suc (hbits w)
next-half w8 = refl
next-half w16 = refl
next-half w32 = refl
next-half w64 = refl
next-half w128 = refl

half-le : (w : Width) (k : ℕ) → 1 ≤ k → k ≤ bit_len w → (1 * 2 ^ (k - 1) % 2 ^ bit_len w ≡ 2 ^ (k - 1))
    × (2 ^ (k - 1) ≤ 2 ^ hbits w)
half-le w k some h =
    let n = next-half w in
    let below : k - 1 < bit_len w = omega arith in
    let le : k - 1 ≤ hbits w = omega arith in
    (one_shl (k - 1) (bit_len w) below, pow-le-pow_right (omega arith) le)

fits_step : (q t v : ℕ) → q ≤ t → 0 < t → q - 1 - v < t
fits_step q t v h p = omega arith

-- 2 ^ (k - 1) - 1 - v as the code computes it
pub negative_fits : (w : Width) (v k : ℕ) → 1 ≤ k → k ≤ bit_len w
    → SFits w (pos (1 * 2 ^ (k - 1) % 2 ^ bit_len w - 1 - v))
negative_fits w v k some h =
    let p = half-le w k some h in
    let top = pow_pos (hbits w) in
    record { sfits = rw p.0 (fits_step (2 ^ (k - 1)) (2 ^ hbits w) v p.1 top) }

to_z-high : (w : Width) (n d : ℕ) → 2 ^ hbits w ≤ n → 2 ^ bit_len w - suc n ≡ d → to_z w n ≡ negsuc d
to_z-high w n d h e = rw (le-ltb n (2 ^ hbits w) h, e) refl

not_step : (b t d : ℕ) → b ≡ 2 * t → d < t → (t ≤ b - 1 - d) × (b - suc (b - 1 - d) ≡ d)
not_step b t d e h = (omega arith, omega arith)

not-is : (w : Width) (d : ℕ) → d < 2 ^ hbits w → to_z w (2 ^ bit_len w - 1 - d) ≡ negsuc d
not-is w d h =
    let p = not_step (2 ^ bit_len w) (2 ^ hbits w) d (half-one w) h in
    to_z-high w (2 ^ bit_len w - 1 - d) d p.0 p.1

negative_step : (v q : ℕ) → v < q → negsuc (q - 1 - v) ≡ pos v -ℤ pos q
negative_step v q h = omega (arith, ints)

-- the complement of that
pub negative-is : (w : Width) (v k : ℕ) → 1 ≤ k → k ≤ bit_len w → v < 2 ^ (k - 1)
    → to_z w (2 ^ bit_len w - 1 - (1 * 2 ^ (k - 1) % 2 ^ bit_len w - 1 - v)) ≡ pos v -ℤ pos (2 ^ (k - 1))
negative-is w v k some h below =
    let p = half-le w k some h in
    let top = pow_pos (hbits w) in
    rw p.0 (not-is w (2 ^ (k - 1) - 1 - v) (fits_step (2 ^ (k - 1)) (2 ^ hbits w) v p.1 top)
    ∙ negative_step v (2 ^ (k - 1)) below)

-- the bits that were read, if r was made of them
pub cast_back : (w : Width) (n : ℕ) (r : ℤ) → n < 2 ^ bit_len w → r ≡ cast_signed w n
    → cast_unsigned w (cast_signed w (cast_unsigned w r)) ≡ n
cast_back w n r h e = ap (λ z. cast_unsigned w (cast_signed w (cast_unsigned w z))) e
    ∙ ap (λ m. cast_unsigned w (cast_signed w m)) (of_z-to_z w n h) ∙ of_z-to_z w n h
