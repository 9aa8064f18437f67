-- The value of a `DnsName` in contracts.
use Rattle.bitstream_messages.specs.declared.dns_label.DnsLabel.{DnsLabel}
use Rattle.std.specs.Prelude.{List}

-- Made by `./format` from formats/dns_name.fields: edit that file and make this one anew.

-- the fields, and the items of the lists
pub record DnsNameFields : Type 0 where
  pub labels : List DnsLabel
