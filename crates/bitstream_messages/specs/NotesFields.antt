-- The value of a `Notes` in contracts.
use Rattle.std.specs.Prelude.{ℕ, List}

-- Made by `./format` from formats/notes.fields: edit that file and make this one anew.

-- the fields, and the items of the lists
pub record NotesFields : Type 0 where
  pub place : ℕ
  pub levels : List ℕ
