-- Made by `./format` from formats/frame.fields: edit that file and make this one anew.
use Rattle.bitstream_io.proofs.GrowsLemmas.{go_grown, stop_grown, grown, part_go, part_stop, grown_end}
use Rattle.bitstream_io.proofs.OwnLemmas.{is_error}
use Rattle.bitstream_messages.proofs.frame.Frame.read.Goals as goal

pub returns-in_err-body_tag : goal.returns-in_err-body_tag
returns-in_err-body_tag g c = stop_grown _ (grown c.in_err-body_tag.ensures.reads) c.from_residual.ensures.1

pub returns-in_err-body_bytes : goal.returns-in_err-body_bytes
returns-in_err-body_bytes g c = go_grown _ (grown c.in_ok-body_tag.ensures.reads) (stop_grown _ (grown
    c.in_err-body_bytes.ensures.reads) c.from_residual-in_err-body_bytes.ensures.1)

pub returns-in_err-message_bytes : goal.returns-in_err-message_bytes
returns-in_err-message_bytes g c = go_grown _ (grown c.in_ok-body_tag.ensures.reads) (go_grown _ (grown
    c.in_ok-body_bytes.ensures.reads) (stop_grown _ (grown c.in_err-message_bytes.ensures.reads)
    c.from_residual-in_err-message_bytes.ensures.1))

pub returns-in_err-body : goal.returns-in_err-body
returns-in_err-body g c = go_grown _ (grown c.in_ok-body_tag.ensures.reads) (go_grown _ (grown
    c.in_ok-body_bytes.ensures.reads) (go_grown _ (grown c.in_ok-message_bytes.ensures.reads) (part_stop _
    c.in_err-body.ensures (is_error _ _ c.from_residual-in_err-body.ensures.1))))

pub returns-in_err-message : goal.returns-in_err-message
returns-in_err-message g c = go_grown _ (grown c.in_ok-body_tag.ensures.reads) (go_grown _ (grown
    c.in_ok-body_bytes.ensures.reads) (go_grown _ (grown c.in_ok-message_bytes.ensures.reads) (part_go _
    c.in_ok-body.ensures (part_stop _ c.in_err-message.ensures (is_error _ _
    c.from_residual-in_err-message.ensures.1)))))

pub returns : goal.returns
returns g c = go_grown _ (grown c.in_ok-body_tag.ensures.reads) (go_grown _ (grown c.in_ok-body_bytes.ensures.reads)
    (go_grown _ (grown c.in_ok-message_bytes.ensures.reads) (part_go _ c.in_ok-body.ensures (part_go _
    c.in_ok-message.ensures (grown_end _ _)))))
