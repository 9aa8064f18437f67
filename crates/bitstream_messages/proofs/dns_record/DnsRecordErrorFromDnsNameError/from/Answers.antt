-- Made by `./format` from formats/dns_record.fields: edit that file and make this one anew.
use Rattle.std.proofs.Common.{refl}
use Rattle.bitstream_messages.proofs.dns_record.DnsRecordErrorFromDnsNameError.from.Goals as goal

pub returns-in-Reader : goal.returns-in-Reader
returns-in-Reader c = rw c.in-Reader.is refl

pub returns-in-InDnsLabel : goal.returns-in-InDnsLabel
returns-in-InDnsLabel c = rw c.in-InDnsLabel.is refl
