-- Made by `./format` from formats/arp_packet.fields: edit that file and make this one anew.
use Rattle.protocols.proofs.arp_packet.ArpPacketFromBitStream.from_reader.Goals as goal

pub returns : goal.returns
returns g c = record { reads = c.read.ensures }
