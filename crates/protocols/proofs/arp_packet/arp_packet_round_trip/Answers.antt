-- Made by `./format` from formats/arp_packet.fields: edit that file and make this one anew.
use Rattle.protocols.proofs.ArpPacketLemmas.{arp_packet_goes, arp_packet_packs}
use Rattle.protocols.proofs.arp_packet.arp_packet_round_trip.Goals as goal

pub returns-clause-back : goal.returns-clause-back
returns-clause-back c = λ o value at from more fits. (arp_packet_goes o value fits).back at from more

pub returns-clause-size : goal.returns-clause-size
returns-clause-size c = λ o value at fits. (arp_packet_packs o value fits).size at
