-- Made by `./format` from formats/eapol_packet.fields: edit that file and make this one anew.
use Rattle.network_messages.proofs.eapol_packet.EapolPacketFromBitStreamUsing.from_reader.Goals as goal

pub returns : goal.returns
returns g c = record { reads = c.read.ensures }
