-- Made by `./format --c` from ../network_messages/formats/udp_datagram.fields: edit that file and make this one anew.
use Rattle.bitstream_format.proofs.SummedLemmas.{summed, unsummed}
use Rattle.network_messages_c.proofs.udp_datagram.UdpDatagramGiven.sum16_udp.Goals as goal

pub returns-in-Ok : goal.returns-in-Ok
returns-in-Ok c = summed _ _ _ _ _ _ _ _ c.summing_writer-writer.ensures c.in-Ok.ensures _ c.sum_of.ensures

pub returns-in-Err : goal.returns-in-Err
returns-in-Err c = unsummed _ _ _ _ _ _ _ _ c.summing_writer-writer.ensures (λ x may. may.refused) _ c.in-Err.ensures
