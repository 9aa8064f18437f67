-- The value of a `DnsQuestion` in contracts.
use Rattle.bitstream_messages.specs.declared.dns_name.DnsName.{DnsName}
use Rattle.std.specs.Prelude.{ℕ}

-- Made by `./format` from formats/dns_question.fields: edit that file and make this one anew.

-- the fields, and the items of the lists
pub record DnsQuestionFields : Type 0 where
  pub name : DnsName
  pub kind : ℕ
  pub class : ℕ
