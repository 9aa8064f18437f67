-- Requests counted down to the one that is refused.
use Rattle.std.specs.Prelude.{ℕ, ◌-◌, ◌==◌, Bool, Option, Some, None, if◌then◌else◌}

-- requests left before the next refusal, once one more was made; after a single refusal there is no next one
abbrev pub left_after : Bool → Option ℕ → Option ℕ
left_after once None = None
left_after once (Some n) = if n == 0 then (if once then None else Some 0) else Some (n - 1)
