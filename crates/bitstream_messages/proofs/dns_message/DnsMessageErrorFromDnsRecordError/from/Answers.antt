-- Made by `./format` from formats/dns_message.fields: edit that file and make this one anew.
use Rattle.std.proofs.Common.{refl}
use Rattle.bitstream_messages.proofs.dns_message.DnsMessageErrorFromDnsRecordError.from.Goals as goal

pub returns-in-Reader : goal.returns-in-Reader
returns-in-Reader c = rw c.in-Reader.is refl

pub returns-in-InDnsName : goal.returns-in-InDnsName
returns-in-InDnsName c = rw c.in-InDnsName.is refl
