-- Made by `./format` from formats/rtp_packet.fields: edit that file and make this one anew.
use Rattle.bitstream_io.proofs.WriteParts.{all_none}
use Rattle.network_messages.proofs.rtp_packet.write_rtp_extension_if.Goals as goal

pub returns-in-None : goal.returns-in-None
returns-in-None g c = rw c.in-None.is (all_none _ _)
