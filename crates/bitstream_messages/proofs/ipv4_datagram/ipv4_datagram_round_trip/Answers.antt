-- Made by `./format` from formats/ipv4_datagram.fields: edit that file and make this one anew.
use Rattle.bitstream_messages.proofs.Ipv4DatagramLemmas.{ipv4_datagram_goes, ipv4_datagram_packs}
use Rattle.bitstream_messages.proofs.ipv4_datagram.ipv4_datagram_round_trip.Goals as goal

pub returns-clause-back : goal.returns-clause-back
returns-clause-back c = λ o value at from more fits. (ipv4_datagram_goes o value fits).back at from more

pub returns-clause-size : goal.returns-clause-size
returns-clause-size c = λ o value at fits. (ipv4_datagram_packs o value fits).size at
