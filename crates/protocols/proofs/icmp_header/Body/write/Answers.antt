-- Made by `./format` from formats/icmp_header.fields: edit that file and make this one anew.
use Rattle.bitstream_io.proofs.WriteParts.{all_none}
use Rattle.protocols.proofs.icmp_header.Body.write.Goals as goal

pub returns-in-Other : goal.returns-in-Other
returns-in-Other g c = rw c.in-Other.is (all_none _ _)
