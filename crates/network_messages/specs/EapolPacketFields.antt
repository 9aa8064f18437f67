-- The value of an `EapolPacket` in contracts.
use Rattle.network_messages.specs.declared.eapol_packet.EapCode.{EapCode}
use Rattle.std.specs.Prelude.{ℕ, List}

-- Made by `./format` from formats/eapol_packet.fields: edit that file and make this one anew.

-- the fields, and the items of the lists
pub record EapolPacketFields : Type 0 where
  pub version : ℕ
  pub code : EapCode
  pub id : ℕ
  pub «data» : List ℕ
