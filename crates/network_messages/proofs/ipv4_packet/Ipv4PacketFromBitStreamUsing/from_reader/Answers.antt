-- Made by `./format` from formats/ipv4_packet.fields: edit that file and make this one anew.
use Rattle.network_messages.proofs.ipv4_packet.Ipv4PacketFromBitStreamUsing.from_reader.Goals as goal

pub returns : goal.returns
returns g c = record { reads = c.read.ensures }
