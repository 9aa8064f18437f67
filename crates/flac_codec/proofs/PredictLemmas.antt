-- From a residual the samples are restored, whatever is predicted.
use Rattle.std.proofs.Common.{arith, ◌≡◌, ◌∙◌, ◌++◌, ◌+◌, ◌-◌, ◌%◌, ◌^◌, ◌<◌, ◌≤◌, ℕ, ℤ, zero, suc, pos, negsuc, List, [], ◌∷◌, length, take, drop, sym, ap, append-nil, get_or, w64, of_z, SFits}
use native.Mathlib.Nat.{mod-lt, div-le_self}
use Rattle.std.specs.List.{All}
use Rattle.std.specs.Int.{int_shr, int_wrapping_add, int_wrapping_sub}
use Rattle.std.proofs.lemmas.List.{drop_all, drop_more, take_more, append_assoc, length-append}
use Rattle.std.proofs.Math.Facts.{Fits-of_z, sfits_to_z}
use Rattle.std.proofs.lemmas.Int.{of_z-to_z, to_z-of_z}
use Rattle.flac_codec.specs.Predict.{predicted, residual, restored, weighted}

-- ---- the steps of the loops

module _ (p : List ℤ → ℤ) (xs rs : List ℤ) (i : ℕ) where
  pub restored-step : (d : ℤ) (ys : List ℤ) → i < length rs → ys ≡ xs ++ int_wrapping_add w64 (get_or rs i d) (p xs) ∷ []
      → restored p ys (drop (i + 1) rs) ≡ restored p xs (drop i rs)
  restored-step d ys less is =
      ap (λ zs. restored p zs (drop (i + 1) rs)) is ∙ sym (ap (restored p xs) (drop_more rs i d less))

  pub restored-end : length rs ≤ i → xs ≡ restored p xs (drop i rs)
  restored-end all = sym (ap (restored p xs) (drop_all i rs all))

pub one_longer : (n : ℕ) (xs ys : List ℤ) (x : ℤ) → ys ≡ xs ++ x ∷ [] → n ≤ length xs → n ≤ length ys
one_longer n xs ys x is enough =
    let size : length (xs ++ x ∷ []) ≡ length xs + 1 = length-append xs (x ∷ []) in
    rw is (omega (arith, size, enough))

module _ (p : List ℤ → ℤ) (left xs : List ℤ) (i : ℕ) where
  pub residual-step : (d : ℤ) (ys : List ℤ) → i < length xs
      → ys ≡ left ++ int_wrapping_sub w64 (get_or xs i d) (p (take i xs)) ∷ []
      → ys ++ residual p (take (i + 1) xs) (drop (i + 1) xs) ≡ left ++ residual p (take i xs) (drop i xs)
  residual-step d ys less is =
      let x = int_wrapping_sub w64 (get_or xs i d) (p (take i xs)) in
      let there = residual p (take (i + 1) xs) (drop (i + 1) xs) in
      let one : residual p (take i xs) (drop i xs) ≡ x ∷ there =
      ap (residual p (take i xs)) (drop_more xs i d less)
      ∙ ap (λ t. x ∷ residual p t (drop (i + 1) xs)) (sym (take_more xs i d less)) in
      ap (λ zs. zs ++ there) is ∙ append_assoc left (x ∷ []) there ∙ ap (λ l. left ++ l) (sym one)

  pub residual-end : length xs ≤ i → left ≡ left ++ residual p (take i xs) (drop i xs)
  residual-end all = sym (ap (λ t. left ++ residual p (take i xs) t) (drop_all i xs all) ∙ append-nil left)

-- ---- a prediction has 64 bits

weighted_fits : (weights done : List ℤ) (k : ℕ) → weighted weights done k < 2 ^ 64
weighted_fits weights done zero = omega arith
weighted_fits weights done (suc k) = mod-lt _ (omega arith)

-- a shift to lower bits leaves a number in its range
shifted_fits : (x : ℤ) (shift : ℕ) → SFits w64 x → SFits w64 (int_shr x shift)
shifted_fits (pos n) shift fits = let less = div-le_self n (2 ^ shift) in let most = fits.sfits in
    record { sfits = omega (arith, less, most) }
shifted_fits (negsuc n) shift fits = let less = div-le_self n (2 ^ shift) in let most = fits.sfits in
    record { sfits = omega (arith, less, most) }

pub predicted_fits : (weights : List ℤ) (shift : ℕ) (done : List ℤ) → SFits w64 (predicted weights shift done)
predicted_fits weights shift done =
    shifted_fits _ shift (sfits_to_z {w = w64} (record { fits = weighted_fits weights done (length weights) }))

-- ---- the law

pub wrapped-back : (x a : ℤ) → SFits w64 x → SFits w64 a → int_wrapping_add w64 (int_wrapping_sub w64 x a) a ≡ x
wrapped-back x a fits small =
    let m = of_z w64 x in
    let n = of_z w64 a in
    let less : m < 2 ^ 64 = (Fits-of_z {w = w64} {z = x} fits).fits in
    let few : n < 2 ^ 64 = (Fits-of_z {w = w64} {z = a} small).fits in
    let again : ((m + (2 ^ 64 - n)) % 2 ^ 64 + n) % 2 ^ 64 ≡ m = omega (arith, less, few) in
    rw (of_z-to_z w64 ((m + (2 ^ 64 - n)) % 2 ^ 64) (mod-lt _ (omega arith)), again) (to_z-of_z w64 x fits)

-- samples of 64 bits come back, whatever is predicted
pub restored-residual : (p : List ℤ → ℤ) → ((done : List ℤ) → SFits w64 (p done)) → (done xs : List ℤ)
    → All (SFits w64) xs → restored p done (residual p done xs) ≡ done ++ xs
restored-residual p small done [] fit = sym (append-nil done)
restored-residual p small done (x ∷ xs) fit =
    let head : SFits w64 x = fit 0 x (omega arith) in
    let tail : All (SFits w64) xs = λ k d less. fit (suc k) d (omega (arith, less)) in
    ap (λ z. restored p (done ++ z ∷ []) (residual p (done ++ x ∷ []) xs)) (wrapped-back x (p done) head (small done))
    ∙ restored-residual p small (done ++ x ∷ []) xs tail ∙ append_assoc done (x ∷ []) xs
