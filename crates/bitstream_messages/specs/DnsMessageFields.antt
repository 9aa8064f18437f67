-- The value of a `DnsMessage` in contracts.
use Rattle.bitstream_messages.specs.declared.dns_question.DnsQuestion.{DnsQuestion}
use Rattle.bitstream_messages.specs.declared.dns_record.DnsRecord.{DnsRecord}
use Rattle.std.specs.Prelude.{ℕ, Bool, List}

-- Made by `./format` from formats/dns_message.fields: edit that file and make this one anew.

-- the fields, and the items of the lists
pub record DnsMessageFields : Type 0 where
  pub id : ℕ
  pub response : Bool
  pub opcode : ℕ
  pub authoritative : Bool
  pub truncated : Bool
  pub recursion : Bool
  pub available : Bool
  pub authentic : Bool
  pub unchecked : Bool
  pub code : ℕ
  pub questions : List DnsQuestion
  pub answers : List DnsRecord
  pub authorities : List DnsRecord
  pub additional : List DnsRecord
