-- Types of numbers that count bits. The result of a conversion follows from its clause: so a lemma is imported.
use Rattle.std.specs.Prelude.{◌≡◌, ℕ, ◌+◌, ◌<◌, ◌≤◌, Result, Ok, Err, OkIff, MatchResult}
use Rattle.std.proofs.Common.{arith}

-- the value of this number, or an error exactly if it is above the greatest number of the type
abbrev pub Counts : {N E : Type 0} → (N → ℕ) → ℕ → ℕ → Result N E → Type 0
Counts value greatest n result = MatchResult result (λ x. (value x ≡ n) × (n ≤ greatest)) (λ _. greatest < n)

-- std's conversions between integers
pub converted : {E : Type 0} (greatest n : ℕ) (result : Result ℕ E) → OkIff result (n < greatest + 1) n
    → Counts (λ x. x) greatest n result
converted greatest n (Ok x) h = (h.1, omega (arith, h.0))
converted greatest n (Err e) h = omega (arith, h)
