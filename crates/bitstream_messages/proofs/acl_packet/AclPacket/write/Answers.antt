-- Made by `./format` from formats/acl_packet.fields: edit that file and make this one anew.
use Rattle.std.proofs.Common.{◌∙◌}
use Rattle.bitstream_io.proofs.WriteParts.{all_none}
use Rattle.bitstream_io.proofs.WriteSteps.{next_call, next_write, stop_call, stop_write}
use Rattle.bitstream_messages.proofs.acl_packet.AclPacket.write.Goals as goal

pub returns-in_err-write : goal.returns-in_err-write
returns-in_err-write g c = rw (← c.self.view_is) (stop_write _ _ _ _ _ _ _ c.from_residual.ensures.1
    c.in_err-write.ensures.writes)

pub returns-in_err-write-2 : goal.returns-in_err-write-2
returns-in_err-write-2 g c = rw (← c.self.view_is) (next_write _ _ _ _ _ _ _ c.in_ok-write.ensures.writes (stop_write _
    _ _ _ _ _ _ c.from_residual-in_err-write-2.ensures.1 c.in_err-write-2.ensures.writes))

pub returns-in_err-write-3 : goal.returns-in_err-write-3
returns-in_err-write-3 g c = rw (← c.self.view_is) (next_write _ _ _ _ _ _ _ c.in_ok-write.ensures.writes (next_write _
    _ _ _ _ _ _ c.in_ok-write-2.ensures.writes (stop_write _ _ _ _ _ _ _ c.from_residual-in_err-write-3.ensures.1
    c.in_err-write-3.ensures.writes)))

pub returns-in_err-write-4 : goal.returns-in_err-write-4
returns-in_err-write-4 g c = rw (← c.self.view_is) (next_write _ _ _ _ _ _ _ c.in_ok-write.ensures.writes (next_write _
    _ _ _ _ _ _ c.in_ok-write-2.ensures.writes (next_write _ _ _ _ _ _ _ c.in_ok-write-3.ensures.writes (stop_write _ _
    _ _ _ _ _ c.from_residual-in_err-write-4.ensures.1 (rw (← c.self.view_is) at (rw c.frame_number.ensures at
    c.in_err-write-4.ensures.writes))))))

pub returns-in_err-write-5 : goal.returns-in_err-write-5
returns-in_err-write-5 g c = rw (← c.self.view_is) (next_write _ _ _ _ _ _ _ c.in_ok-write.ensures.writes (next_write _
    _ _ _ _ _ _ c.in_ok-write-2.ensures.writes (next_write _ _ _ _ _ _ _ c.in_ok-write-3.ensures.writes (next_write _ _
    _ _ _ _ _ (rw (← c.self.view_is) at (rw c.frame_number.ensures at c.in_ok-write-4.ensures.writes)) (stop_write _ _ _
    _ _ _ _ c.from_residual-in_err-write-5.ensures.1 (rw (c.len.ensures ∙ c.self.inside.payload.ok.0) at
    c.in_err-write-5.ensures.writes))))))

pub returns-in_err-write-6 : goal.returns-in_err-write-6
returns-in_err-write-6 g c = rw (← c.self.view_is) (next_write _ _ _ _ _ _ _ c.in_ok-write.ensures.writes (next_write _
    _ _ _ _ _ _ c.in_ok-write-2.ensures.writes (next_write _ _ _ _ _ _ _ c.in_ok-write-3.ensures.writes (next_write _ _
    _ _ _ _ _ (rw (← c.self.view_is) at (rw c.frame_number.ensures at c.in_ok-write-4.ensures.writes)) (next_write _ _ _
    _ _ _ _ (rw (c.len.ensures ∙ c.self.inside.payload.ok.0) at c.in_ok-write-5.ensures.writes) (stop_write _ _ _ _ _ _
    _ c.from_residual-in_err-write-6.ensures.1 c.in_err-write-6.ensures.writes))))))

pub returns-in_err-write_bytes : goal.returns-in_err-write_bytes
returns-in_err-write_bytes g c = rw (← c.self.view_is) (next_write _ _ _ _ _ _ _ c.in_ok-write.ensures.writes
    (next_write _ _ _ _ _ _ _ c.in_ok-write-2.ensures.writes (next_write _ _ _ _ _ _ _ c.in_ok-write-3.ensures.writes
    (next_write _ _ _ _ _ _ _ (rw (← c.self.view_is) at (rw c.frame_number.ensures at c.in_ok-write-4.ensures.writes))
    (next_write _ _ _ _ _ _ _ (rw (c.len.ensures ∙ c.self.inside.payload.ok.0) at c.in_ok-write-5.ensures.writes)
    (next_write _ _ _ _ _ _ _ c.in_ok-write-6.ensures.writes (stop_call _ _ _ _ _ _ _
    c.from_residual-in_err-write_bytes.ensures.1 (rw c.deref.ensures.value at
    c.in_err-write_bytes.ensures.writes))))))))

pub returns : goal.returns
returns g c = rw (← c.self.view_is) (next_write _ _ _ _ _ _ _ c.in_ok-write.ensures.writes (next_write _ _ _ _ _ _ _
    c.in_ok-write-2.ensures.writes (next_write _ _ _ _ _ _ _ c.in_ok-write-3.ensures.writes (next_write _ _ _ _ _ _ _
    (rw (← c.self.view_is) at (rw c.frame_number.ensures at c.in_ok-write-4.ensures.writes)) (next_write _ _ _ _ _ _ _
    (rw (c.len.ensures ∙ c.self.inside.payload.ok.0) at c.in_ok-write-5.ensures.writes) (next_write _ _ _ _ _ _ _
    c.in_ok-write-6.ensures.writes (next_call _ _ _ _ _ _ _ (rw c.deref.ensures.value at
    c.in_ok-write_bytes.ensures.writes) (all_none _ _))))))))
