-- The value of a `QuicStream` in contracts.
use Rattle.std.specs.Prelude.{ℕ, Bool, List}

-- Made by `./format` from formats/quic_stream.fields: edit that file and make this one anew.

-- the fields, and the items of the lists
pub record QuicStreamFields : Type 0 where
  pub last : Bool
  pub stream : ℕ
  pub offset : ℕ
  pub «data» : List ℕ
