-- The value of an `UdpDatagram` in contracts.
use Rattle.network_messages.specs.declared.ipv4_pseudo.Ipv4Pseudo.{Ipv4Pseudo}
use Rattle.std.specs.Prelude.{ℕ, List}

-- Made by `./format` from formats/udp_datagram.fields: edit that file and make this one anew.

-- the fields, and the items of the lists
pub record UdpDatagramFields : Type 0 where
  pub pseudo : Ipv4Pseudo
  pub source : ℕ
  pub target : ℕ
  pub «data» : List ℕ
