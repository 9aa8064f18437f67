-- The value of a `RtpPacket` in contracts.
use Rattle.network_messages.specs.declared.rtp_extension.RtpExtension.{RtpExtension}
use Rattle.std.specs.Prelude.{ℕ, Bool, List, Option}

-- Made by `./format` from formats/rtp_packet.fields: edit that file and make this one anew.

-- the fields, and the items of the lists
pub record RtpPacketFields : Type 0 where
  pub padding : Bool
  pub marker : Bool
  pub payload_type : ℕ
  pub sequence : ℕ
  pub timestamp : ℕ
  pub ssrc : ℕ
  pub csrc : List ℕ
  pub extension : Option RtpExtension
