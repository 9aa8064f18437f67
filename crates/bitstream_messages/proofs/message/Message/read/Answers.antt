-- Made by `./format` from formats/message.fields: edit that file and make this one anew.
use Rattle.bitstream_io.proofs.GrowsLemmas.{go_grown, stop_grown, grown, part_go, part_stop, grown_end}
use Rattle.bitstream_io.proofs.OwnLemmas.{is_error}
use Rattle.bitstream_messages.proofs.message.Message.read.Goals as goal

pub returns-in_err-version : goal.returns-in_err-version
returns-in_err-version g c = stop_grown _ (grown c.in_err-version.ensures.reads) c.from_residual.ensures.1

pub returns-in_err-body_tag : goal.returns-in_err-body_tag
returns-in_err-body_tag g c = go_grown _ (grown c.in_ok-version.ensures.reads) (stop_grown _ (grown
    c.in_err-body_tag.ensures.reads) c.from_residual-in_err-body_tag.ensures.1)

pub returns-in_err-body : goal.returns-in_err-body
returns-in_err-body g c = go_grown _ (grown c.in_ok-version.ensures.reads) (go_grown _ (grown
    c.in_ok-body_tag.ensures.reads) (part_stop _ c.in_err-body.ensures (is_error _ _
    c.from_residual-in_err-body.ensures.1)))

pub returns-in_err-checked : goal.returns-in_err-checked
returns-in_err-checked g c = go_grown _ (grown c.in_ok-version.ensures.reads) (go_grown _ (grown
    c.in_ok-body_tag.ensures.reads) (part_go _ c.in_ok-body.ensures (stop_grown _ (grown c.in_err-checked.ensures.reads)
    c.from_residual-in_err-checked.ensures.1)))

pub returns-in_err-skip : goal.returns-in_err-skip
returns-in_err-skip g c = go_grown _ (grown c.in_ok-version.ensures.reads) (go_grown _ (grown
    c.in_ok-body_tag.ensures.reads) (part_go _ c.in_ok-body.ensures (go_grown _ (grown c.in_ok-checked.ensures.reads)
    (stop_grown _ (grown c.in_err-skip.ensures.reads) c.from_residual-in_err-skip.ensures.1))))

pub returns : goal.returns
returns g c = go_grown _ (grown c.in_ok-version.ensures.reads) (go_grown _ (grown c.in_ok-body_tag.ensures.reads)
    (part_go _ c.in_ok-body.ensures (go_grown _ (grown c.in_ok-checked.ensures.reads) (go_grown _ (grown
    c.in_ok-skip.ensures.reads) (grown_end _ _)))))
