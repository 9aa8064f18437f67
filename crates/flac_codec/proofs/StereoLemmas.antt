-- Left and right channels go back from one of them and their difference, and from their mean and their difference.
use Rattle.std.proofs.Common.{arith, inl, inr, ◌⊎◌, ◌≡◌, ◌∙◌, ◌+◌, ◌-◌, ◌*◌, ◌/◌, ◌%◌, ◌^◌, ◌<◌, ◌≤◌, ℕ, ℤ, zero, suc, pos, negsuc, List, [], ◌∷◌, length, refl, sym, ap, subst, w64, of_z, to_z, SFits}
use native.Mathlib.Nat.{mod-lt, pow-suc}
use Rattle.std.specs.Int.{int_shr, int_wrapping_add, int_wrapping_sub}
use Rattle.std.specs.List.{All}
use Rattle.std.proofs.Math.Facts.{Fits-of_z, sfits_to_z}
use Rattle.std.proofs.Math.Pow.{pow_mono}
use Rattle.std.proofs.lemmas.Bool.{cases_lt, le-ltb, lt-ltb}
use Rattle.std.proofs.lemmas.Int.{of_z-to_z, to_z-of_z}
use Rattle.flac_codec.specs.Channels.{combined, less, more}
use Rattle.bitstream_io.specs.Callers.{FitsSignedBits}

-- ---- one sample

twice : (n : ℕ) → n * 2 ≡ 2 * n
twice n = omega arith

shr_zero : (z : ℤ) → int_shr z 0 ≡ z
shr_zero (pos n) = let same : n / 2 ^ 0 ≡ n = omega arith in ap pos same
shr_zero (negsuc n) = let same : n / 2 ^ 0 ≡ n = omega arith in ap negsuc same

-- the number modulo 2^64 of a signed number of few bits
abbrev IsNear : ℕ → ℕ → Type 0
IsNear b m = (m < b) ⊎ ((2 ^ 64 ≤ m + b) × (m < 2 ^ 64))

-- half of a signed number, as numbers modulo 2^64
abbrev IsHalf : ℕ → ℕ → Type 0
IsHalf k h = ((k < 2 ^ 63) × (h ≡ k / 2)) ⊎ ((2 ^ 63 ≤ k) × (h + (2 ^ 64 - 1 - k) / 2 ≡ 2 ^ 64 - 1))

near : (n : ℕ) (x : ℤ) → 1 ≤ n → n ≤ 33 → FitsSignedBits n x → IsNear (2 ^ (n - 1)) (of_z w64 x)
near n (pos k) some within fits = inl fits
near n (negsuc k) some within fits =
    let most : 2 ^ (n - 1) ≤ 2 ^ 32 = pow_mono {i = n - 1} {j = 32} (omega arith) in
    inr (omega (arith, fits, most), omega (arith, fits, most))

fits_near : (n k : ℕ) → 1 ≤ n → n ≤ 33 → IsNear (2 ^ (n - 1)) k → FitsSignedBits n (to_z w64 k)
fits_near n k some within (inl low) =
    let most : 2 ^ (n - 1) ≤ 2 ^ 32 = pow_mono {i = n - 1} {j = 32} (omega arith) in
    rw (lt-ltb k (2 ^ 63) (omega (arith, low, most))) low
fits_near n k some within (inr high) =
    let most : 2 ^ (n - 1) ≤ 2 ^ 32 = pow_mono {i = n - 1} {j = 32} (omega arith) in
    let one = high.0 in
    let two = high.1 in
    rw (le-ltb k (2 ^ 63) (omega (arith, one, most))) (omega (arith, one, two, most))

is_half : (k : ℕ) → k < 2 ^ 64 → IsHalf k (of_z w64 (int_shr (to_z w64 k) 1))
is_half k small = elim (cases_lt k (2 ^ 63)) [
  | inl low ↦ rw (lt-ltb k (2 ^ 63) low) (inl (low, refl))
  | inr high ↦ rw (le-ltb k (2 ^ 63) high) (inr (high, omega (arith, high, small)))
]

-- the difference has one bit more
side_near : (b m n : ℕ) → b ≤ 2 ^ 31 → IsNear b m → IsNear b n → IsNear (2 * b) ((m + (2 ^ 64 - n)) % 2 ^ 64)
side_near b m n most (inl p) (inl q) = elim (cases_lt m n) [
  | inl less ↦ inr (omega (arith, p, q, less, most), omega (arith, p, q, less, most))
  | inr more ↦ inl (omega (arith, p, q, more, most))
]
side_near b m n most (inl p) (inr q) = let one = q.0 in let two = q.1 in inl (omega (arith, p, one, two, most))
side_near b m n most (inr p) (inl q) =
    let one = p.0 in let two = p.1 in inr (omega (arith, one, two, q, most), omega (arith, one, two, q, most))
side_near b m n most (inr p) (inr q) =
    let one = p.0 in let two = p.1 in let three = q.0 in let four = q.1 in elim (cases_lt m n) [
      | inl less ↦ inr (omega (arith, one, two, three, four, less, most), omega (arith, one, two, three, four, less, most))
      | inr more ↦ inl (omega (arith, one, two, three, four, more, most))
    ]

-- and the mean as many bits
middle_near : (b m n k h : ℕ) → b ≤ 2 ^ 31 → IsNear b m → IsNear b n → k ≡ (m + (2 ^ 64 - n)) % 2 ^ 64 → IsHalf k h
    → IsNear b ((n + h) % 2 ^ 64)
middle_near b m n k h most (inl p) (inl q) is (inl half) =
    let one = half.0 in let two = half.1 in inl (omega (arith, p, q, is, one, two, most))
middle_near b m n k h most (inl p) (inl q) is (inr half) =
    let one = half.0 in let two = half.1 in inl (omega (arith, p, q, is, one, two, most))
middle_near b m n k h most (inl p) (inr q) is (inl half) =
    let one = half.0 in let two = half.1 in let three = q.0 in let four = q.1 in elim (cases_lt (n + h) (2 ^ 64)) [
      | inl less ↦ inr (omega (arith, p, is, one, two, three, four, less, most), omega (arith, less))
      | inr more ↦ inl (omega (arith, p, is, one, two, three, four, more, most))
    ]
middle_near b m n k h most (inl p) (inr q) is (inr half) =
    let one = half.0 in let three = q.0 in let four = q.1 in absurd (omega (arith, p, is, one, three, four, most))
middle_near b m n k h most (inr p) (inl q) is (inl half) =
    let one = half.0 in let three = p.0 in let four = p.1 in absurd (omega (arith, q, is, one, three, four, most))
middle_near b m n k h most (inr p) (inl q) is (inr half) =
    let one = half.0 in let two = half.1 in let three = p.0 in let four = p.1 in elim (cases_lt (n + h) (2 ^ 64)) [
      | inl less ↦ inr (omega (arith, q, is, one, two, three, four, less, most), omega (arith, less))
      | inr more ↦ inl (omega (arith, q, is, one, two, three, four, more, most))
    ]
middle_near b m n k h most (inr p) (inr q) is (inl half) =
    let one = half.0 in let two = half.1 in let three = p.0 in let four = p.1 in let five = q.0 in let six = q.1 in
    inr (omega (arith, is, one, two, three, four, five, six, most), omega (arith, is, one, two, three, four, five, six, most))
middle_near b m n k h most (inr p) (inr q) is (inr half) =
    let one = half.0 in let two = half.1 in let three = p.0 in let four = p.1 in let five = q.0 in let six = q.1 in
    inr (omega (arith, is, one, two, three, four, five, six, most), omega (arith, is, one, two, three, four, five, six, most))

module _ (n : ℕ) (some : 1 ≤ n) (within : n ≤ 32) (x y : ℤ) (first : FitsSignedBits n x) (second : FitsSignedBits n y) where
  abbrev wide : ℕ
  wide = (of_z w64 x + (2 ^ 64 - of_z w64 y)) % 2 ^ 64

  bound : 2 ^ (n - 1) ≤ 2 ^ 31
  bound = pow_mono {i = n - 1} {j = 31} (omega arith)

  one : IsNear (2 ^ (n - 1)) (of_z w64 x)
  one = near n x some (omega arith) first

  two : IsNear (2 ^ (n - 1)) (of_z w64 y)
  two = near n y some (omega arith) second

  side-fits : FitsSignedBits (n + 1) (int_wrapping_sub w64 x (int_shr y 0))
  side-fits =
      let again : n + 1 - 1 ≡ suc (n - 1) = omega (arith, some) in
      let double : 2 ^ (n + 1 - 1) ≡ 2 * 2 ^ (n - 1) = ap (λ (k : ℕ). 2 ^ k) again ∙ (pow-suc 2 (n - 1) ∙ twice (2 ^ (n - 1))) in
      let here = side_near (2 ^ (n - 1)) (of_z w64 x) (of_z w64 y) bound one two in
      rw (shr_zero y) (fits_near (n + 1) wide (omega arith) (omega arith)
      (subst (λ b. IsNear b wide) (sym double) here))

  middle-fits : FitsSignedBits n (int_wrapping_add w64 y (int_shr (int_wrapping_sub w64 x (int_shr y 0)) 1))
  middle-fits =
      let half = is_half wide (mod-lt _ (omega arith)) in
      rw (shr_zero y) (fits_near n _ some (omega arith)
      (middle_near (2 ^ (n - 1)) (of_z w64 x) (of_z w64 y) wide _ bound one two refl half))

module _ (x y : ℤ) (first : SFits w64 x) (second : SFits w64 y) where
  less_one : of_z w64 x < 2 ^ 64
  less_one = (Fits-of_z {w = w64} {z = x} first).fits

  less_two : of_z w64 y < 2 ^ 64
  less_two = (Fits-of_z {w = w64} {z = y} second).fits

  -- the left sample, from the right one and the difference
  left_again : int_wrapping_add w64 y (int_shr (int_wrapping_sub w64 x (int_shr y 0)) 0) ≡ x
  left_again =
      let m = of_z w64 x in
      let n = of_z w64 y in
      let p = less_one in
      let q = less_two in
      let again : (n + (m + (2 ^ 64 - n)) % 2 ^ 64) % 2 ^ 64 ≡ m = omega (arith, p, q) in
      rw (shr_zero y, shr_zero (to_z w64 ((m + (2 ^ 64 - n)) % 2 ^ 64)), of_z-to_z w64 ((m + (2 ^ 64 - n)) % 2 ^ 64) (mod-lt _ (omega arith)), again)
      (to_z-of_z w64 x first)

  -- the right sample, from the left one and the difference
  right_again : int_wrapping_sub w64 x (int_shr (int_wrapping_sub w64 x (int_shr y 0)) 0) ≡ y
  right_again =
      let m = of_z w64 x in
      let n = of_z w64 y in
      let p = less_one in
      let q = less_two in
      let again : (m + (2 ^ 64 - (m + (2 ^ 64 - n)) % 2 ^ 64)) % 2 ^ 64 ≡ n = omega (arith, p, q) in
      rw (shr_zero y, shr_zero (to_z w64 ((m + (2 ^ 64 - n)) % 2 ^ 64)), of_z-to_z w64 ((m + (2 ^ 64 - n)) % 2 ^ 64) (mod-lt _ (omega arith)), again)
      (to_z-of_z w64 y second)

-- a number to which another was added, and from which it is taken
added_again : (y h : ℤ) → SFits w64 y → SFits w64 h → int_wrapping_sub w64 (int_wrapping_add w64 y h) h ≡ y
added_again y h first second =
    let n = of_z w64 y in
    let k = of_z w64 h in
    let p = (Fits-of_z {w = w64} {z = y} first).fits in
    let q = (Fits-of_z {w = w64} {z = h} second).fits in
    let again : ((n + k) % 2 ^ 64 + (2 ^ 64 - k)) % 2 ^ 64 ≡ n = omega (arith, p, q) in
    rw (of_z-to_z w64 ((n + k) % 2 ^ 64) (mod-lt _ (omega arith)), again) (to_z-of_z w64 y first)

half_fits : (z : ℤ) → SFits w64 z → SFits w64 (int_shr z 1)
half_fits (pos n) fits = let most = fits.sfits in record { sfits = omega (arith, most) }
half_fits (negsuc n) fits = let most = fits.sfits in record { sfits = omega (arith, most) }

wrapped_fits : (x y : ℤ) → SFits w64 (int_wrapping_sub w64 x y)
wrapped_fits x y = sfits_to_z {w = w64} (record { fits = mod-lt _ (omega arith) })

-- ---- all samples of a block

All-none : (P : ℤ → Type 0) → All P []
All-none P k d few = absurd (omega (arith, few))

All-push : (P : ℤ → Type 0) (x : ℤ) (xs : List ℤ) → P x → All P xs → All P (x ∷ xs)
All-push P x xs h hs zero d few = h
All-push P x xs h hs (suc k) d few = hs k d (omega (arith, few))

All-head : (P : ℤ → Type 0) (x : ℤ) (xs : List ℤ) → All P (x ∷ xs) → P x
All-head P x xs h = h 0 x (omega arith)

All-tail : (P : ℤ → Type 0) (x : ℤ) (xs : List ℤ) → All P (x ∷ xs) → All P xs
All-tail P x xs h k d few = h (suc k) d (omega (arith, few))

pub combined-length : (f : ℤ → ℤ → ℤ) (xs ys : List ℤ) → length xs ≡ length ys → length (combined f xs ys) ≡ length xs
combined-length f [] ys is = refl
combined-length f (x ∷ xs) [] is = absurd (omega (arith, is))
combined-length f (x ∷ xs) (y ∷ ys) is = ap suc (combined-length f xs ys (omega (arith, is)))

module _ (n : ℕ) (some : 1 ≤ n) (within : n ≤ 32) where
  pub sides-fit : (xs ys : List ℤ) → All (FitsSignedBits n) xs → All (FitsSignedBits n) ys
      → All (FitsSignedBits (n + 1)) (less 0 xs ys)
  sides-fit [] ys p q = All-none (FitsSignedBits (n + 1))
  sides-fit (x ∷ xs) [] p q = All-none (FitsSignedBits (n + 1))
  sides-fit (x ∷ xs) (y ∷ ys) p q =
      All-push (FitsSignedBits (n + 1)) _ _
      (side-fits n some within x y (All-head (FitsSignedBits n) x xs p) (All-head (FitsSignedBits n) y ys q))
      (sides-fit xs ys (All-tail (FitsSignedBits n) x xs p) (All-tail (FitsSignedBits n) y ys q))

  pub middles-fit : (xs ys : List ℤ) → All (FitsSignedBits n) xs → All (FitsSignedBits n) ys
      → All (FitsSignedBits n) (more 1 ys (less 0 xs ys))
  middles-fit [] [] p q = All-none (FitsSignedBits n)
  middles-fit [] (y ∷ ys) p q = All-none (FitsSignedBits n)
  middles-fit (x ∷ xs) [] p q = All-none (FitsSignedBits n)
  middles-fit (x ∷ xs) (y ∷ ys) p q =
      All-push (FitsSignedBits n) _ _
      (middle-fits n some within x y (All-head (FitsSignedBits n) x xs p) (All-head (FitsSignedBits n) y ys q))
      (middles-fit xs ys (All-tail (FitsSignedBits n) x xs p) (All-tail (FitsSignedBits n) y ys q))

pub left-back : (xs ys : List ℤ) → length xs ≡ length ys → All (SFits w64) xs → All (SFits w64) ys
    → more 0 ys (less 0 xs ys) ≡ xs
left-back [] [] is p q = refl
left-back [] (y ∷ ys) is p q = absurd (omega (arith, is))
left-back (x ∷ xs) [] is p q = absurd (omega (arith, is))
left-back (x ∷ xs) (y ∷ ys) is p q =
    ap (λ z. z ∷ more 0 ys (less 0 xs ys))
    (left_again x y (All-head (SFits w64) x xs p) (All-head (SFits w64) y ys q))
    ∙ ap (λ zs. x ∷ zs) (left-back xs ys (omega (arith, is)) (All-tail (SFits w64) x xs p) (All-tail (SFits w64) y ys q))

pub right-back : (xs ys : List ℤ) → length xs ≡ length ys → All (SFits w64) xs → All (SFits w64) ys
    → less 0 xs (less 0 xs ys) ≡ ys
right-back [] [] is p q = refl
right-back [] (y ∷ ys) is p q = absurd (omega (arith, is))
right-back (x ∷ xs) [] is p q = absurd (omega (arith, is))
right-back (x ∷ xs) (y ∷ ys) is p q =
    ap (λ z. z ∷ less 0 xs (less 0 xs ys))
    (right_again x y (All-head (SFits w64) x xs p) (All-head (SFits w64) y ys q))
    ∙ ap (λ zs. y ∷ zs) (right-back xs ys (omega (arith, is)) (All-tail (SFits w64) x xs p) (All-tail (SFits w64) y ys q))

pub middle-back : (xs ys : List ℤ) → length xs ≡ length ys → All (SFits w64) ys
    → less 1 (more 1 ys (less 0 xs ys)) (less 0 xs ys) ≡ ys
middle-back [] [] is q = refl
middle-back [] (y ∷ ys) is q = absurd (omega (arith, is))
middle-back (x ∷ xs) [] is q = absurd (omega (arith, is))
middle-back (x ∷ xs) (y ∷ ys) is q =
    ap (λ z. z ∷ less 1 (more 1 ys (less 0 xs ys)) (less 0 xs ys))
    (added_again y (int_shr (int_wrapping_sub w64 x (int_shr y 0)) 1) (All-head (SFits w64) y ys q)
    (half_fits (int_wrapping_sub w64 x (int_shr y 0)) (wrapped_fits x (int_shr y 0))))
    ∙ ap (λ zs. y ∷ zs) (middle-back xs ys (omega (arith, is)) (All-tail (SFits w64) y ys q))
