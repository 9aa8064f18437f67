-- Made by `./format` from formats/packet.fields: edit that file and make this one anew.
use Rattle.bitstream_io.proofs.GrowsLemmas.{go_grown, stop_grown, grown, part_go, part_stop, grown_end}
use Rattle.bitstream_io.proofs.OwnLemmas.{is_error}
use Rattle.bitstream_messages.proofs.packet.Packet.read.Goals as goal

pub returns-in_err-notes_bytes : goal.returns-in_err-notes_bytes
returns-in_err-notes_bytes g c = stop_grown _ (grown c.in_err-notes_bytes.ensures.reads) c.from_residual.ensures.1

pub returns-in_err-notes : goal.returns-in_err-notes
returns-in_err-notes g c = go_grown _ (grown c.in_ok-notes_bytes.ensures.reads) (part_stop _ c.in_err-notes.ensures
    (is_error _ _ c.from_residual-in_err-notes.ensures.1))

pub returns-in_err-ack_bytes : goal.returns-in_err-ack_bytes
returns-in_err-ack_bytes g c = go_grown _ (grown c.in_ok-notes_bytes.ensures.reads) (part_go _ c.in_ok-notes.ensures
    (stop_grown _ (grown c.in_err-ack_bytes.ensures.reads) c.from_residual-in_err-ack_bytes.ensures.1))

pub returns-in_err-ack : goal.returns-in_err-ack
returns-in_err-ack g c = go_grown _ (grown c.in_ok-notes_bytes.ensures.reads) (part_go _ c.in_ok-notes.ensures (go_grown
    _ (grown c.in_ok-ack_bytes.ensures.reads) (part_stop _ c.in_err-ack.ensures (is_error _ _
    c.from_residual-in_err-ack.ensures.1))))

pub returns-in_err-end : goal.returns-in_err-end
returns-in_err-end g c = go_grown _ (grown c.in_ok-notes_bytes.ensures.reads) (part_go _ c.in_ok-notes.ensures (go_grown
    _ (grown c.in_ok-ack_bytes.ensures.reads) (part_go _ c.in_ok-ack.ensures (stop_grown _ (grown
    c.in_err-end.ensures.reads) c.from_residual-in_err-end.ensures.1))))

pub returns : goal.returns
returns g c = go_grown _ (grown c.in_ok-notes_bytes.ensures.reads) (part_go _ c.in_ok-notes.ensures (go_grown _ (grown
    c.in_ok-ack_bytes.ensures.reads) (part_go _ c.in_ok-ack.ensures (go_grown _ (grown c.in_ok-end.ensures.reads)
    (grown_end _ _)))))
