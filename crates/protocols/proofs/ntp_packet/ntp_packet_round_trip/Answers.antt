-- Made by `./format` from formats/ntp_packet.fields: edit that file and make this one anew.
use Rattle.protocols.proofs.NtpPacketLemmas.{ntp_packet_goes, ntp_packet_packs}
use Rattle.protocols.proofs.ntp_packet.ntp_packet_round_trip.Goals as goal

pub returns-clause-back : goal.returns-clause-back
returns-clause-back c = λ o value at from more fits. (ntp_packet_goes o value fits).back at from more

pub returns-clause-size : goal.returns-clause-size
returns-clause-size c = λ o value at fits. (ntp_packet_packs o value fits).size at
