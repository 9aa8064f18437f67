-- Made by `./format` from formats/dns_message.fields: edit that file and make this one anew.
use Rattle.bitstream_messages.proofs.dns_message.DnsMessageFromBitStreamUsing.from_reader.Goals as goal

pub returns : goal.returns
returns g c = record { reads = c.read.ensures }
