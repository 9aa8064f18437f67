-- Lists of a power of two items, as the colour tables of GIF: how many items they have.
use Rattle.std.specs.Prelude.{ℕ, ◌+◌, ◌^◌, Bool, nat_lt, if◌then◌else◌}

-- 2^(number + plus) items, or 2^64 - 1 if 64 bits do not hold them; none if the list is not there
unfoldable pub power_count : Bool → ℕ → ℕ → ℕ
power_count there number plus =
    if there then (if nat_lt 63 (number + plus) then 18446744073709551615 else 2 ^ (number + plus)) else 0
