-- Made by `./format` from formats/ipv6_header.fields: edit that file and make this one anew.
use Rattle.protocols.proofs.ipv6_header.Ipv6HeaderFromBitStream.from_reader.Goals as goal

pub returns : goal.returns
returns g c = record { reads = c.read.ensures }
