-- The value of an `Ipv4Packet` in contracts.
use Rattle.std.specs.Prelude.{ℕ, Bool, List}

-- Made by `./format` from formats/ipv4_packet.fields: edit that file and make this one anew.

-- the fields, and the items of the lists
pub record Ipv4PacketFields : Type 0 where
  pub service : ℕ
  pub length : ℕ
  pub id : ℕ
  pub keep_whole : Bool
  pub more : Bool
  pub offset : ℕ
  pub ttl : ℕ
  pub protocol : ℕ
  pub source : List ℕ
  pub target : List ℕ
  pub options : List ℕ
