-- The value of a `TsStream` in contracts.
use Rattle.std.specs.Prelude.{ℕ, List}

-- Made by `./format` from formats/ts_stream.fields: edit that file and make this one anew.

-- the fields, and the items of the lists
pub record TsStreamFields : Type 0 where
  pub kind : ℕ
  pub packets : ℕ
  pub descriptors : List ℕ
