-- Made by `./format` from formats/dns_name.fields: edit that file and make this one anew.
use Rattle.std.proofs.Common.{refl}
use Rattle.bitstream_messages.proofs.dns_name.DnsNameErrorFromDnsLabelError.from.Goals as goal

pub returns-in-Reader : goal.returns-in-Reader
returns-in-Reader c = rw c.in-Reader.is refl

pub returns-in-NoBody : goal.returns-in-NoBody
returns-in-NoBody c = rw c.in-NoBody.is refl
