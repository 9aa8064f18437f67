-- Made by `./format` from formats/ethernet_header.fields: edit that file and make this one anew.
use Rattle.bitstream_io.proofs.OwnLemmas.{is_error}
use Rattle.bitstream_io.proofs.WriteParts.{all_append, all_none, all_stop}
use Rattle.bitstream_io.proofs.WriteSteps.{next_call, next_write, stop_call, stop_write}
use Rattle.protocols.proofs.ethernet_header.EthernetHeader.write.Goals as goal

pub returns-in_err-write_bytes : goal.returns-in_err-write_bytes
returns-in_err-write_bytes g c = stop_call _ _ _ _ _ _ _ c.from_residual.ensures.1 c.in_err-write_bytes.ensures.writes

pub returns-in_err-write_bytes-2 : goal.returns-in_err-write_bytes-2
returns-in_err-write_bytes-2 g c = next_call _ _ _ _ _ _ _ c.in_ok-write_bytes.ensures.writes (stop_call _ _ _ _ _ _ _
    c.from_residual-in_err-write_bytes-2.ensures.1 c.in_err-write_bytes-2.ensures.writes)

pub returns-in_err-write : goal.returns-in_err-write
returns-in_err-write g c = next_call _ _ _ _ _ _ _ c.in_ok-write_bytes.ensures.writes (next_call _ _ _ _ _ _ _
    c.in_ok-write_bytes-2.ensures.writes (stop_write _ _ _ _ _ _ _ c.from_residual-in_err-write.ensures.1 (rw
    c.number.ensures at c.in_err-write.ensures.writes)))

pub returns-in_err-write_vlan_tag_if : goal.returns-in_err-write_vlan_tag_if
returns-in_err-write_vlan_tag_if g c = next_call _ _ _ _ _ _ _ c.in_ok-write_bytes.ensures.writes (next_call _ _ _ _ _ _
    _ c.in_ok-write_bytes-2.ensures.writes (next_write _ _ _ _ _ _ _ (rw c.number.ensures at
    c.in_ok-write.ensures.writes) (all_stop _ _ _ _ _ _ _ (is_error _ _
    c.from_residual-in_err-write_vlan_tag_if.ensures.1) c.in_err-write_vlan_tag_if.ensures)))

pub returns : goal.returns
returns g c = next_call _ _ _ _ _ _ _ c.in_ok-write_bytes.ensures.writes (next_call _ _ _ _ _ _ _
    c.in_ok-write_bytes-2.ensures.writes (next_write _ _ _ _ _ _ _ (rw c.number.ensures at c.in_ok-write.ensures.writes)
    (all_append _ _ _ _ _ _ _ c.in_ok-write_vlan_tag_if.ensures (all_none _ _))))
