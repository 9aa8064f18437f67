-- Made by `./format` from formats/rtp_packet.fields: edit that file and make this one anew.
use Rattle.network_messages.proofs.RtpPacketLemmas.{rtp_packet_goes, rtp_packet_packs}
use Rattle.network_messages.proofs.rtp_packet.rtp_packet_round_trip.Goals as goal

pub returns-clause-back : goal.returns-clause-back
returns-clause-back c = λ o value at from more fits. (rtp_packet_goes o value fits).back at from more

pub returns-clause-size : goal.returns-clause-size
returns-clause-size c = λ o value at fits. (rtp_packet_packs o value fits).size at
