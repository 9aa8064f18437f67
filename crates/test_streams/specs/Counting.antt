-- Counts that stop at the greatest number of their type.
use Rattle.std.specs.Prelude.{ℕ, ◌+◌, ◌-◌, ◌^◌, min, is_err, if◌then◌else◌, Result}

-- one more
abbrev pub count_up : ℕ → ℕ
count_up n = min (n + 1) (2 ^ 64 - 1)

-- one more where the result is a refusal
abbrev pub counted_if_refused : {T E : Type 0} → Result T E → ℕ → ℕ
counted_if_refused answer n = if is_err answer then count_up n else n
