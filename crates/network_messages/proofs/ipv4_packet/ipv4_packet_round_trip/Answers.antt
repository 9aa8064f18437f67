-- Made by `./format` from formats/ipv4_packet.fields: edit that file and make this one anew.
use Rattle.network_messages.proofs.Ipv4PacketLemmas.{ipv4_packet_goes, ipv4_packet_packs}
use Rattle.network_messages.proofs.ipv4_packet.ipv4_packet_round_trip.Goals as goal

pub returns-clause-back : goal.returns-clause-back
returns-clause-back c = λ o value at from more fits. (ipv4_packet_goes o value fits).back at from more

pub returns-clause-size : goal.returns-clause-size
returns-clause-size c = λ o value at fits. (ipv4_packet_packs o value fits).size at
