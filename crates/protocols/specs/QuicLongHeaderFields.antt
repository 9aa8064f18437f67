-- The value of a `QuicLongHeader` in contracts.
use Rattle.std.specs.Prelude.{ℕ, Bool, List}

-- Made by `./format` from formats/quic_long_header.fields: edit that file and make this one anew.

-- the fields, and the items of the lists
pub record QuicLongHeaderFields : Type 0 where
  pub fixed : Bool
  pub kind : ℕ
  pub specific : ℕ
  pub version : ℕ
  pub target : List ℕ
  pub source : List ℕ
