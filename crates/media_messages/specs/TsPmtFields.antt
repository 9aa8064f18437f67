-- The value of a `TsPmt` in contracts.
use Rattle.media_messages.specs.declared.ts_stream.TsStream.{TsStream}
use Rattle.std.specs.Prelude.{ℕ, Bool, List}

-- Made by `./format` from formats/ts_pmt.fields: edit that file and make this one anew.

-- the fields, and the items of the lists
pub record TsPmtFields : Type 0 where
  pub program : ℕ
  pub version : ℕ
  pub current : Bool
  pub clock : ℕ
  pub streams : List TsStream
