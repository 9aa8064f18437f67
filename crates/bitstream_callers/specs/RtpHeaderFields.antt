-- The value of a `RtpHeader` in contracts.
use Rattle.std.specs.Prelude.{ℕ, Bool, List}

-- Made by `./format` from formats/rtp_header.fields: edit that file and make this one anew.

-- the fields, and the items of the lists
pub record RtpHeaderFields : Type 0 where
  pub padding : Bool
  pub extension : Bool
  pub marker : Bool
  pub payload_type : ℕ
  pub sequence : ℕ
  pub timestamp : ℕ
  pub ssrc : ℕ
  pub csrc : List ℕ
