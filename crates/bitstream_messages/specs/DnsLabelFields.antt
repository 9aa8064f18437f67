-- The value of a `DnsLabel` in contracts.
use Rattle.bitstream_messages.specs.declared.dns_label.Body.{Body}

-- Made by `./format` from formats/dns_label.fields: edit that file and make this one anew.

-- the fields, and the items of the lists
pub record DnsLabelFields : Type 0 where
  pub body : Body
