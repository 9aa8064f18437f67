-- The value of an `Ipv4Datagram` in contracts.
use Rattle.bitstream_messages.specs.declared.ipv4_datagram.Ecn.{Ecn}
use Rattle.std.specs.Prelude.{ℕ, Bool, List}

-- Made by `./format` from formats/ipv4_datagram.fields: edit that file and make this one anew.

-- the fields, and the items of the lists
pub record Ipv4DatagramFields : Type 0 where
  pub dscp : ℕ
  pub ecn : Ecn
  pub length : ℕ
  pub id : ℕ
  pub keep_whole : Bool
  pub more : Bool
  pub offset : ℕ
  pub ttl : ℕ
  pub protocol : ℕ
  pub checksum : ℕ
  pub source : List ℕ
  pub target : List ℕ
  pub options : List ℕ
