-- The last bytes of some.
use Rattle.std.specs.Prelude.{◌≡◌, ℕ, ◌-◌, List, ◌++◌, length, take}

-- some bytes are the last of all
abbrev pub IsTail : List ℕ → List ℕ → Type 0
IsTail bytes all = all ≡ take (length all - length bytes) all ++ bytes
