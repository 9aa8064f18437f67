-- Made by `./format` from formats/ethernet_header.fields: edit that file and make this one anew.
use Rattle.bitstream_io.proofs.WriteParts.{all_none}
use Rattle.protocols.proofs.ethernet_header.write_vlan_tag_if.Goals as goal

pub returns-in-None : goal.returns-in-None
returns-in-None g c = rw c.in-None.is (all_none _ _)
