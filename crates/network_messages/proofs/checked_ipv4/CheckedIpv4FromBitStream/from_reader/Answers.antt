-- Made by `./format` from formats/checked_ipv4.fields: edit that file and make this one anew.
use Rattle.network_messages.proofs.checked_ipv4.CheckedIpv4FromBitStream.from_reader.Goals as goal

pub returns : goal.returns
returns g c = record { reads = c.read.ensures }
