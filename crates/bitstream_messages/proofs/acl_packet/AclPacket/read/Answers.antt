-- Made by `./format` from formats/acl_packet.fields: edit that file and make this one anew.
use Rattle.std.proofs.lemmas.Bool.{eq-eqb, ne_eqb}
use Rattle.bitstream_io.proofs.CallerLemmas.{if_growing, else_growing}
use Rattle.bitstream_io.proofs.GrowsLemmas.{go_grown, stop_grown, grown, vec-grown, grown_end}
use Rattle.bitstream_messages.proofs.acl_packet.AclPacket.read.Goals as goal

pub returns-in_err-handle : goal.returns-in_err-handle
returns-in_err-handle g c = stop_grown _ (grown c.in_err-handle.ensures.reads) c.from_residual.ensures.1

pub returns-in_err-boundary : goal.returns-in_err-boundary
returns-in_err-boundary g c = go_grown _ (grown c.in_ok-handle.ensures.reads) (stop_grown _ (grown
    c.in_err-boundary.ensures.reads) c.from_residual-in_err-boundary.ensures.1)

pub returns-in_err-broadcast : goal.returns-in_err-broadcast
returns-in_err-broadcast g c = go_grown _ (grown c.in_ok-handle.ensures.reads) (go_grown _ (grown
    c.in_ok-boundary.ensures.reads) (stop_grown _ (grown c.in_err-broadcast.ensures.reads)
    c.from_residual-in_err-broadcast.ensures.1))

pub returns-in_err-stored_frame_bytes : goal.returns-in_err-stored_frame_bytes
returns-in_err-stored_frame_bytes g c = go_grown _ (grown c.in_ok-handle.ensures.reads) (go_grown _ (grown
    c.in_ok-boundary.ensures.reads) (go_grown _ (grown c.in_ok-broadcast.ensures.reads) (stop_grown _ (grown
    c.in_err-stored_frame_bytes.ensures.reads) c.from_residual-in_err-stored_frame_bytes.ensures.1)))

pub returns-in_err-payload_bytes : goal.returns-in_err-payload_bytes
returns-in_err-payload_bytes g c = go_grown _ (grown c.in_ok-handle.ensures.reads) (go_grown _ (grown
    c.in_ok-boundary.ensures.reads) (go_grown _ (grown c.in_ok-broadcast.ensures.reads) (go_grown _ (grown
    c.in_ok-stored_frame_bytes.ensures.reads) (stop_grown _ (grown c.in_err-payload_bytes.ensures.reads)
    c.from_residual-in_err-payload_bytes.ensures.1))))

pub returns-in_err-channel : goal.returns-in_err-channel
returns-in_err-channel g c = go_grown _ (grown c.in_ok-handle.ensures.reads) (go_grown _ (grown
    c.in_ok-boundary.ensures.reads) (go_grown _ (grown c.in_ok-broadcast.ensures.reads) (go_grown _ (grown
    c.in_ok-stored_frame_bytes.ensures.reads) (go_grown _ (grown c.in_ok-payload_bytes.ensures.reads) (stop_grown _
    (grown c.in_err-channel.ensures.reads) c.from_residual-in_err-channel.ensures.1)))))

pub returns-in_err-payload : goal.returns-in_err-payload
returns-in_err-payload g c = go_grown _ (grown c.in_ok-handle.ensures.reads) (go_grown _ (grown
    c.in_ok-boundary.ensures.reads) (go_grown _ (grown c.in_ok-broadcast.ensures.reads) (go_grown _ (grown
    c.in_ok-stored_frame_bytes.ensures.reads) (go_grown _ (grown c.in_ok-payload_bytes.ensures.reads) (go_grown _ (grown
    c.in_ok-channel.ensures.reads) (stop_grown _ (vec-grown _ _ c.in_err-payload.ensures.reads)
    c.from_residual-in_err-payload.ensures.1))))))

pub returns-then-not-is_frame_bytes : goal.returns-then-not-is_frame_bytes
returns-then-not-is_frame_bytes g c = go_grown _ (grown c.in_ok-handle.ensures.reads) (go_grown _ (grown
    c.in_ok-boundary.ensures.reads) (go_grown _ (grown c.in_ok-broadcast.ensures.reads) (go_grown _ (grown
    c.in_ok-stored_frame_bytes.ensures.reads) (go_grown _ (grown c.in_ok-payload_bytes.ensures.reads) (go_grown _ (grown
    c.in_ok-channel.ensures.reads) (go_grown _ (vec-grown _ _ c.in_ok-payload.ensures.reads) (else_growing _ _ _ (ne_eqb
    _ _ (rw c.frame_number.ensures at c.if-not-is_frame_bytes.true)) (grown_end _ _))))))))

pub returns : goal.returns
returns g c = go_grown _ (grown c.in_ok-handle.ensures.reads) (go_grown _ (grown c.in_ok-boundary.ensures.reads)
    (go_grown _ (grown c.in_ok-broadcast.ensures.reads) (go_grown _ (grown c.in_ok-stored_frame_bytes.ensures.reads)
    (go_grown _ (grown c.in_ok-payload_bytes.ensures.reads) (go_grown _ (grown c.in_ok-channel.ensures.reads) (go_grown
    _ (vec-grown _ _ c.in_ok-payload.ensures.reads) (if_growing _ _ _ (eq-eqb _ _ (rw c.frame_number.ensures at
    c.if-not-is_frame_bytes.false)) (grown_end _ _))))))))
