-- Made by `./format` from formats/acl_packet.fields: edit that file and make this one anew.
use Rattle.bitstream_messages.proofs.acl_packet.AclPacket.frame_number.Goals as goal

pub returns : goal.returns
returns c = rw c.frame_bytes.ensures at c.stored_size.ensures
