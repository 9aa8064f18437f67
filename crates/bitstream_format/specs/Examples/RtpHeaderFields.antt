-- What contracts see of a `RtpHeader`.
use Rattle.std.specs.Prelude.{ℕ, Bool, List}

-- its fields, and the items of its lists
pub record RtpHeaderFields : Type 0 where
  pub padding : Bool
  pub extension : Bool
  pub marker : Bool
  pub payload_type : ℕ
  pub sequence : ℕ
  pub timestamp : ℕ
  pub ssrc : ℕ
  pub csrc : List ℕ
