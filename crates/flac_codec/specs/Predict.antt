-- Predictions: the residual of samples, and the samples of a residual.
use Rattle.std.specs.Prelude.{ℕ, zero, suc, ◌+◌, ◌-◌, ◌*◌, ◌%◌, ◌^◌, ℤ, pos, negsuc, List, [], ◌∷◌, ◌++◌, length, get_or}
use Rattle.std.specs.Int.{int_shr, int_wrapping_add, int_wrapping_sub, cast_signed, cast_unsigned, w64}

-- the weighted sum of the last k samples modulo 2^64; the first weight is that of the last sample
abbrev pub weighted : List ℤ → List ℤ → ℕ → ℕ
weighted weights done zero = 0
weighted weights done (suc k) =
    (weighted weights done k
    + cast_unsigned w64 (get_or weights k (pos 0)) * cast_unsigned w64 (get_or done (length done - (k + 1)) (pos 0))
    % 2 ^ 64) % 2 ^ 64

-- the prediction of the next sample: the weighted sum in 64 bits, without its `shift` lowest bits
abbrev pub predicted : List ℤ → ℕ → List ℤ → ℤ
predicted weights shift done = int_shr (cast_signed w64 (weighted weights done (length weights))) shift

-- the weights of the fixed prediction of an order
abbrev pub fixed_weights : ℕ → List ℤ
fixed_weights zero = []
fixed_weights (suc zero) = pos 1 ∷ []
fixed_weights (suc (suc zero)) = pos 2 ∷ negsuc 0 ∷ []
fixed_weights (suc (suc (suc zero))) = pos 3 ∷ negsuc 2 ∷ pos 1 ∷ []
fixed_weights _ = pos 4 ∷ negsuc 5 ∷ pos 4 ∷ negsuc 0 ∷ []

-- the differences of samples from their predictions, after the samples `done`
abbrev pub residual : (List ℤ → ℤ) → List ℤ → List ℤ → List ℤ
residual p done [] = []
residual p done (x ∷ xs) = int_wrapping_sub w64 x (p done) ∷ residual p (done ++ x ∷ []) xs

-- the samples `done`, and then those of a residual
abbrev pub restored : (List ℤ → ℤ) → List ℤ → List ℤ → List ℤ
restored p done [] = done
restored p done (r ∷ rs) = restored p (done ++ int_wrapping_add w64 r (p done) ∷ []) rs
