-- Signed encodings, and the zigzag order.
use Rattle.std.proofs.Common.{◌≡◌, ℕ, ◌+◌, ◌-◌, ◌*◌, ◌%◌, ◌^◌, ◌<◌, ◌≤◌, ◌⊎◌, inl, inr, refl, ap, sym, ◌∙◌, arith}
use Rattle.std.specs.Prelude.{ℤ, pos, negsuc}
use Rattle.std.proofs.Math.Nat.{mod-eq_of_lt}
use Rattle.std.proofs.lemmas.Bool.{lt-ltb, le-ltb, eq-eqb, ne_eqb}
use Rattle.std.proofs.lemmas.Nat.{pow_pos, mod_below}
use Rattle.bitstream_number.specs.Word.{Order, bytes, residue, signed_word, FitsSignedBits, signed_from, signed_number, zig, zag}
use Rattle.bitstream_number.proofs.WordLemmas.{length-word, number-word, same_from_bytes, half}

pub residue-lt : (n : ℕ) (x : ℤ) → residue n x < 2 ^ n
residue-lt n (pos k) = mod_below k (2 ^ n) (pow_pos n)
residue-lt n (negsuc k) = omega (arith, pow_pos n)

pub signed_from-residue : (n : ℕ) (x : ℤ) → 0 < n → FitsSignedBits n x → signed_from n (residue n x) ≡ x
signed_from-residue n (pos k) some fits =
    let small : k < 2 ^ n = omega (arith, half n some, fits) in
    rw (mod-eq_of_lt small, lt-ltb k (2 ^ (n - 1)) fits) refl
signed_from-residue n (negsuc k) some fits =
    let small : k < 2 ^ n = omega (arith, half n some, fits) in
    let large : 2 ^ (n - 1) ≤ 2 ^ n - 1 - k = omega (arith, half n some, fits) in
    rw (mod-eq_of_lt small, le-ltb (2 ^ n - 1 - k) (2 ^ (n - 1)) large) (ap negsuc (omega arith))

pub signed_number-signed_word : (o : Order) (n : ℕ) (x : ℤ) → 0 < n → FitsSignedBits n x
    → signed_number o (signed_word o n x) ≡ x
signed_number-signed_word o n x some fits =
    rw (length-word o n (residue n x), number-word o n (residue n x), mod-eq_of_lt (residue-lt n x))
    (signed_from-residue n x some fits)

-- two signed numbers of n bits are equal if their bytes are equal
pub same_from_residue : (n k : ℕ) (o : Order) (x y : ℤ) → n ≡ 8 * k → 0 < n → FitsSignedBits n x → FitsSignedBits n y
    → bytes o k (residue n x) ≡ bytes o k (residue n y) → x ≡ y
same_from_residue n k o x y size some p q e =
    let r : residue n x ≡ residue n y = same_from_bytes o n k (residue n x) (residue n y) size (residue-lt n x)
    (residue-lt n y) e in
    sym (signed_from-residue n x some p) ∙ ap (signed_from n) r ∙ signed_from-residue n y some q

pub zag-zig : (x : ℤ) → zag (zig x) ≡ x
zag-zig (pos n) = rw (eq-eqb (2 * n % 2) 0 (omega arith)) (ap pos (omega arith))
zag-zig (negsuc n) = rw (ne_eqb ((2 * n + 1) % 2) 0 (λ e. omega arith)) (ap negsuc (omega arith))

cases_half : (n : ℕ) → (n % 2 ≡ 0) ⊎ (n % 2 ≡ 1)
cases_half n = grind arith

pub zig-zag : (n : ℕ) → zig (zag n) ≡ n
zig-zag n = elim (cases_half n) [
  | inl e ↦ rw (eq-eqb (n % 2) 0 e) (omega arith)
  | inr e ↦ rw (ne_eqb (n % 2) 0 (λ f. omega arith)) (omega arith)
]
