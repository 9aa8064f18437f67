-- Made by `./format` from formats/acl_packet.fields: edit that file and make this one anew.
use Rattle.bitstream_io.proofs.WriteParts.{all_none}
use Rattle.bitstream_io.proofs.WriteSteps.{next_call, next_write, stop_call, stop_write}
use Rattle.bitstream_messages.proofs.acl_packet.AclPacket.write_for_frame_bytes.Goals as goal

pub returns-in_err-write : goal.returns-in_err-write
returns-in_err-write g c = rw (← c.self.view_is) (stop_write _ _ _ _ _ _ _ c.from_residual.ensures.1
    c.in_err-write.ensures.writes)

pub returns-in_err-write_bytes : goal.returns-in_err-write_bytes
returns-in_err-write_bytes g c = rw (← c.self.view_is) (next_write _ _ _ _ _ _ _ c.in_ok-write.ensures.writes (stop_call
    _ _ _ _ _ _ _ c.from_residual-in_err-write_bytes.ensures.1 (rw c.deref.ensures.value at
    c.in_err-write_bytes.ensures.writes)))

pub returns : goal.returns
returns g c = rw (← c.self.view_is) (next_write _ _ _ _ _ _ _ c.in_ok-write.ensures.writes (next_call _ _ _ _ _ _ _ (rw
    c.deref.ensures.value at c.in_ok-write_bytes.ensures.writes) (all_none _ _)))
