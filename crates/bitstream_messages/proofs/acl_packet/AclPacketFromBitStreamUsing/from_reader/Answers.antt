-- Made by `./format` from formats/acl_packet.fields: edit that file and make this one anew.
use Rattle.bitstream_messages.proofs.acl_packet.AclPacketFromBitStreamUsing.from_reader.Goals as goal

pub returns : goal.returns
returns g c = record { reads = c.read.ensures }
