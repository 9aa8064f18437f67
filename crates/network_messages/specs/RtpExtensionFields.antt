-- The value of a `RtpExtension` in contracts.
use Rattle.std.specs.Prelude.{ℕ, List}

-- Made by `./format` from formats/rtp_extension.fields: edit that file and make this one anew.

-- the fields, and the items of the lists
pub record RtpExtensionFields : Type 0 where
  pub profile : ℕ
  pub «data» : List ℕ
