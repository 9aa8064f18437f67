-- The numbers in a count's range.
use Rattle.std.specs.Prelude.{ℕ, ◌<◌, ◌⊎◌, ◌&&◌, nat_le, if◌then◌else◌, Option, Some, None}

-- n is below `least`, or above `most`
abbrev pub IsOutOfRange : ℕ → ℕ → ℕ → Type 0
IsOutOfRange least most n = (n < least) ⊎ (most < n)

-- a number from `least` to `most`, or `None`
abbrev pub in_range : ℕ → ℕ → Option ℕ → Option ℕ
in_range least most None = None
in_range least most (Some n) = if nat_le least n && nat_le n most then Some n else None
