-- Made by `./format --c` from ../network_messages/formats/ipv4_packet.fields: edit that file and make this one anew.
use Rattle.bitstream_io.proofs.CallerLemmas.{plainly_written}
use Rattle.network_messages_c.proofs.ipv4_packet.Ipv4PacketGivenToBitStream.to_writer.Goals as goal

pub returns : goal.returns
returns g c = record { writes = plainly_written _ _ _ _ _ c.write.ensures }
