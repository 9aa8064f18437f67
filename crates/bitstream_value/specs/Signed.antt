-- The range of signed numbers.
use Rattle.std.specs.Prelude.{ℕ, ℤ, pos, ◌-◌, ◌^◌, ◌-ℤ◌, ◌≤ℤ◌, ◌<ℤ◌}

-- x lies from - 2 ^ (n - 1) to 2 ^ (n - 1) - 1, as two inequalities
abbrev pub InSignedRange : ℕ → ℤ → Type 0
InSignedRange n x = ((pos 0 -ℤ pos (2 ^ (n - 1))) ≤ℤ x) × (x <ℤ pos (2 ^ (n - 1)))
