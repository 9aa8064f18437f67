-- The value of a `Renegotiation` in contracts.
use Rattle.std.specs.Prelude.{ℕ, List}

-- Made by `./format` from formats/renegotiation.fields: edit that file and make this one anew.

-- the fields, and the items of the lists
pub record RenegotiationFields : Type 0 where
  pub key : List ℕ
