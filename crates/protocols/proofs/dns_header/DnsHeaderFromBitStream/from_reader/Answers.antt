-- Made by `./format` from formats/dns_header.fields: edit that file and make this one anew.
use Rattle.protocols.proofs.dns_header.DnsHeaderFromBitStream.from_reader.Goals as goal

pub returns : goal.returns
returns g c = record { reads = c.read.ensures }
