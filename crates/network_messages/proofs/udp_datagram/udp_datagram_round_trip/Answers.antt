-- Made by `./format` from formats/udp_datagram.fields: edit that file and make this one anew.
use Rattle.network_messages.proofs.UdpDatagramLemmas.{udp_datagram_goes, udp_datagram_packs}
use Rattle.network_messages.proofs.udp_datagram.udp_datagram_round_trip.Goals as goal

pub returns-clause-back : goal.returns-clause-back
returns-clause-back c = λ o value at from more fits. (udp_datagram_goes o value fits).back at from more

pub returns-clause-size : goal.returns-clause-size
returns-clause-size c = λ o value at fits. (udp_datagram_packs o value fits).size at
