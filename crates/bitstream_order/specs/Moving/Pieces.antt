-- The number of pieces in which bytes are sent.
use Rattle.std.specs.Prelude.{ℕ, zero, suc, ◌+◌, ◌/◌, ◌-◌, ◌==◌, if◌then◌else◌}

-- the number of pieces of n bytes after a number of queued bits: none for no bytes, one if no bit is queued,
-- else pieces of `most` bytes each
abbrev pub pieces : ℕ → ℕ → ℕ → ℕ
pieces most zero n = if n == 0 then 0 else 1
pieces most (suc queued) n = (n + (most - 1)) / most
