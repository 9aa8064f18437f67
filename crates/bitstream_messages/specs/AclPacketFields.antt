-- The value of an `AclPacket` in contracts.
use Rattle.std.specs.Prelude.{ℕ, List}

-- Made by `./format` from formats/acl_packet.fields: edit that file and make this one anew.

-- the fields, and the items of the lists
pub record AclPacketFields : Type 0 where
  pub handle : ℕ
  pub boundary : ℕ
  pub broadcast : ℕ
  pub channel : ℕ
  pub payload : List ℕ
