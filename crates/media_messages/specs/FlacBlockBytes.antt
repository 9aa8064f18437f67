-- The values of other numbers of a `FlacBlock`, with the bytes after them, in contracts.
use Rattle.std.specs.Prelude.{ℕ, List}

-- Made by `./format` from formats/flac_block.fields: edit that file and make this one anew.

-- the number, and the bytes
pub record OtherBodyFields : Type 0 where
  pub number : ℕ
  pub bytes : List ℕ
