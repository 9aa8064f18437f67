-- The value of a `TftpData` in contracts.
use Rattle.std.specs.Prelude.{ℕ, List}

-- Made by `./format` from formats/tftp_data.fields: edit that file and make this one anew.

-- the fields, and the items of the lists
pub record TftpDataFields : Type 0 where
  pub block : ℕ
  pub «data» : List ℕ
