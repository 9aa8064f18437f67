-- Made by `./format` from formats/acl_packet.fields: edit that file and make this one anew.
use Rattle.bitstream_messages.proofs.AclPacketLemmas.{acl_packet_goes, acl_packet_packs}
use Rattle.bitstream_messages.proofs.acl_packet.acl_packet_round_trip.Goals as goal

pub returns-clause-back : goal.returns-clause-back
returns-clause-back c = λ o value at from more fits. (acl_packet_goes o value fits).back at from more

pub returns-clause-size : goal.returns-clause-size
returns-clause-size c = λ o value at fits. (acl_packet_packs o value fits).size at
