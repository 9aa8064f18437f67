-- Made by `./format` from formats/ipv4_header.fields: edit that file and make this one anew.
use Rattle.protocols.proofs.ipv4_header.Ipv4HeaderFromBitStream.from_reader.Goals as goal

pub returns : goal.returns
returns g c = record { reads = c.read.ensures }
