-- The value of a `DnsRecord` in contracts.
use Rattle.bitstream_messages.specs.declared.dns_name.DnsName.{DnsName}
use Rattle.std.specs.Prelude.{ℕ, List}

-- Made by `./format` from formats/dns_record.fields: edit that file and make this one anew.

-- the fields, and the items of the lists
pub record DnsRecordFields : Type 0 where
  pub name : DnsName
  pub kind : ℕ
  pub class : ℕ
  pub ttl : ℕ
  pub «data» : List ℕ
