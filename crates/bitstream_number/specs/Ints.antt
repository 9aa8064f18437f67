-- The integer types satisfy the laws of the traits. These are lemmas: ghost members of the impls cite them.
use Rattle.std.specs.Prelude.{◌≡◌, ◌≢◌, ◌↔◌, ℕ, ℤ, pos, negsuc, zero, suc, ◌+◌, ◌-◌, ◌*◌, ◌/◌, ◌^◌, ◌<◌, ◌≤◌, ◌==◌, ◌-ℤ◌, Some, IsTrue, int_div, unsigned_abs, neg_ℤ}
use Rattle.std.specs.Int.{Width, w8, w16, w32, w64, w128, CanDivide, FitsUnsignedBits, cast_unsigned, cast_signed}
use Rattle.std.specs.Ordering.{nat_cmp, int_cmp, int_eq}
use Rattle.std.proofs.Common.{refl, ap, sym, subst, ◌∙◌, arith, inl, inr}
use Rattle.std.proofs.Math.Nat.{mod-eq_of_lt, pow-le-pow_right}
use Rattle.std.proofs.lemmas.Nat.{pow_pos, div_below}
use Rattle.std.proofs.lemmas.Bool.{cases_lt}
use Rattle.std.proofs.lemmas.Bool.Decides.{Decides-eqb, Decides-int_eq}
use Rattle.std.proofs.lemmas.Int.{ints, quot_fits, fits_signed_from_abs}
use Rattle.bitstream_number.specs.Word.{residue, FitsSignedBits, signed_from}
use lib.Signed.{mag}
use mir.Val.{SFits, hbits, bits as bit_len}

-- ---- unsigned types

pub unsigned-eq : (a b : ℕ) → IsTrue (a == b) ↔ (pos a ≡ pos b)
unsigned-eq a b =
    let w = Decides-eqb a b in
    ((λ e. ap pos (w.0 e)), (λ e. w.1 (ap mag e)))

pub unsigned-eq_value : (a b : ℕ) → IsTrue (a == b) ↔ (a ≡ b)
unsigned-eq_value a b = Decides-eqb a b

-- a byte is one of the numbers of k bits
pub unsigned-byte : (k x u : ℕ) → pos x ≡ pos (residue k (pos u)) → u < 256 → 8 ≤ k → x ≡ u
unsigned-byte k x u e h w =
    let top : 2 ^ 8 ≤ 2 ^ k = pow-le-pow_right (omega arith) w in
    let fits : u < 2 ^ k = omega arith in
    ap mag e ∙ mod-eq_of_lt fits

pub unsigned-order : (a b : ℕ) → Some (nat_cmp a b) ≡ Some (int_cmp (pos a) (pos b))
unsigned-order a b =
    let same : nat_cmp a b ≡ int_cmp (pos a) (pos b) = grind (arith, ints) in
    ap Some same

pub unsigned-can_sub : (k a b : ℕ) → FitsUnsignedBits k (pos a -ℤ pos b) → b ≤ a
unsigned-can_sub k a b f = elim (cases_lt a b) [
  | inl below ↦
      let n : pos a -ℤ pos b ≡ negsuc (b - a - 1) = omega (arith, ints) in
      absurd (subst (λ (z : ℤ). FitsUnsignedBits k z) n f)
  | inr fine ↦ fine
]

pub unsigned-sub : (k a b r : ℕ) → r ≡ a - b → FitsUnsignedBits k (pos a -ℤ pos b) → pos r ≡ pos a -ℤ pos b
unsigned-sub k a b r e f = let le = unsigned-can_sub k a b f in omega (arith, ints)

pub unsigned-can_rem : (b : ℕ) → pos b ≢ pos 0 → 0 < b
unsigned-can_rem zero h = absurd (h refl)
unsigned-can_rem (suc n) h = omega arith

-- ---- signed types

-- half of the numbers of an integer type are not negative
pub half-one : (w : Width) → 2 ^ bit_len w ≡ 2 * 2 ^ hbits w
half-one w8 = refl
half-one w16 = refl
half-one w32 = refl
half-one w64 = refl
half-one w128 = refl

below-half : (w : Width) (n : ℕ) → n < 2 ^ (bit_len w - 1) → n < 2 ^ hbits w
below-half w8 n h = h
below-half w16 n h = h
below-half w32 n h = h
below-half w64 n h = h
below-half w128 n h = h

pub signed-eq : (a b : ℤ) → IsTrue (int_eq a b) ↔ (a ≡ b)
signed-eq a b = Decides-int_eq a b

pub signed-can_sub : (w : Width) (z : ℤ) → FitsSignedBits (bit_len w) z → SFits w z
signed-can_sub w (pos n) h = record { sfits = below-half w n h }
signed-can_sub w (negsuc n) h = record { sfits = below-half w n h }

suc-step : (t n : ℕ) → t - suc n ≡ t - 1 - n
suc-step t n = omega arith

-- a cast of a signed number keeps it modulo 2^bits
pub signed-bits : (w : Width) (z : ℤ) → FitsSignedBits (bit_len w) z → cast_unsigned w z ≡ residue (bit_len w) z
signed-bits w (pos n) h =
    let f = below-half w n h in
    let e = half-one w in
    let below : n < 2 ^ bit_len w = omega arith in
    sym (mod-eq_of_lt below)
signed-bits w (negsuc n) h =
    let f = below-half w n h in
    let e = half-one w in
    let below : n < 2 ^ bit_len w = omega arith in
    rw mod-eq_of_lt (suc-step (2 ^ bit_len w) n)

-- the signed number whose two's complement the bits of a type are
pub signed-wrap : (w : Width) (m : ℕ) → cast_signed w m ≡ signed_from (bit_len w) m
signed-wrap w8 m = rw (suc-step (2 ^ 8) m) refl
signed-wrap w16 m = rw (suc-step (2 ^ 16) m) refl
signed-wrap w32 m = rw (suc-step (2 ^ 32) m) refl
signed-wrap w64 m = rw (suc-step (2 ^ 64) m) refl
signed-wrap w128 m = rw (suc-step (2 ^ 128) m) refl

-- a number other than 0 and -1 divides
wide : (t m : ℕ) → t * suc (suc m) ≡ t * m + 2 * t
wide t m = grind arith

quotient_below : (a m t : ℕ) → a ≤ t → 0 < t → a / suc (suc m) < t
quotient_below a m t h p =
    let e = wide t m in
    let above : a < t * suc (suc m) = omega arith in
    div_below a (suc (suc m)) t (omega arith) above

abs-neg : (n : ℕ) → unsigned_abs (neg_ℤ (pos n)) ≡ n
abs-neg zero = refl
abs-neg (suc n) = refl

pub signed-can_rem : (w : Width) (a b : ℤ) → FitsSignedBits (bit_len w) a → FitsSignedBits (bit_len w) b → b ≢ pos 0
    → b ≢ negsuc 0 → CanDivide w a b
signed-can_rem w a (pos zero) f g nonzero other = absurd (nonzero refl)
signed-can_rem w a (pos (suc m)) f g nonzero other = (
  omega arith,
  quot_fits w a (pos (suc m)) (signed-can_sub w a f) (omega (arith, ints)),
)
signed-can_rem w a (negsuc zero) f g nonzero other = absurd (other refl)
signed-can_rem w (pos a) (negsuc (suc m)) f g nonzero other =
    let t = pow_pos (hbits w) in
    let x = below-half w a f in
    let y = below-half w (suc m) g in
    let two = half-one w in (
      omega arith,
      fits_signed_from_abs w (int_div (pos a) (negsuc (suc m)))
          (rw abs-neg (quotient_below a m (2 ^ hbits w) (omega arith) t)),
    )
signed-can_rem w (negsuc a) (negsuc (suc m)) f g nonzero other =
    let t = pow_pos (hbits w) in
    let x = below-half w a f in
    let y = below-half w (suc m) g in
    let two = half-one w in (
      omega arith,
      fits_signed_from_abs w (int_div (negsuc a) (negsuc (suc m)))
          (quotient_below (suc a) m (2 ^ hbits w) (omega arith) t),
    )
