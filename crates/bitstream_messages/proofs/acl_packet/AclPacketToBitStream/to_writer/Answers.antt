-- Made by `./format` from formats/acl_packet.fields: edit that file and make this one anew.
use Rattle.bitstream_io.proofs.CallerLemmas.{plainly_written}
use Rattle.bitstream_messages.proofs.acl_packet.AclPacketToBitStream.to_writer.Goals as goal

pub returns : goal.returns
returns g c = record { writes = plainly_written _ _ _ _ _ c.write.ensures }
