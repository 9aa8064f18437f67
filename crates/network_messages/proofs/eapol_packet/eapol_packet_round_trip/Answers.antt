-- Made by `./format` from formats/eapol_packet.fields: edit that file and make this one anew.
use Rattle.network_messages.proofs.EapolPacketLemmas.{eapol_packet_goes, eapol_packet_packs}
use Rattle.network_messages.proofs.eapol_packet.eapol_packet_round_trip.Goals as goal

pub returns-clause-back : goal.returns-clause-back
returns-clause-back c = λ o value at from more fits. (eapol_packet_goes o value fits).back at from more

pub returns-clause-size : goal.returns-clause-size
returns-clause-size c = λ o value at fits. (eapol_packet_packs o value fits).size at
