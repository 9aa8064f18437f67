-- Made by `./format` from formats/flac_block.fields: edit that file and make this one anew.
use Rattle.bitstream_io.proofs.GrowsLemmas.{go_grown, stop_grown, grown, part_go, part_stop, grown_end}
use Rattle.bitstream_io.proofs.OwnLemmas.{is_error}
use Rattle.media_messages.proofs.flac_block.FlacBlock.read.Goals as goal

pub returns-in_err-last : goal.returns-in_err-last
returns-in_err-last g c = stop_grown _ (grown c.in_err-last.ensures.reads) c.from_residual.ensures.1

pub returns-in_err-body_tag : goal.returns-in_err-body_tag
returns-in_err-body_tag g c = go_grown _ (grown c.in_ok-last.ensures.reads) (stop_grown _ (grown
    c.in_err-body_tag.ensures.reads) c.from_residual-in_err-body_tag.ensures.1)

pub returns-in_err-body_bytes : goal.returns-in_err-body_bytes
returns-in_err-body_bytes g c = go_grown _ (grown c.in_ok-last.ensures.reads) (go_grown _ (grown
    c.in_ok-body_tag.ensures.reads) (stop_grown _ (grown c.in_err-body_bytes.ensures.reads)
    c.from_residual-in_err-body_bytes.ensures.1))

pub returns-in_err-body : goal.returns-in_err-body
returns-in_err-body g c = go_grown _ (grown c.in_ok-last.ensures.reads) (go_grown _ (grown
    c.in_ok-body_tag.ensures.reads) (go_grown _ (grown c.in_ok-body_bytes.ensures.reads) (part_stop _
    c.in_err-body.ensures (is_error _ _ c.from_residual-in_err-body.ensures.1))))

pub returns : goal.returns
returns g c = go_grown _ (grown c.in_ok-last.ensures.reads) (go_grown _ (grown c.in_ok-body_tag.ensures.reads) (go_grown
    _ (grown c.in_ok-body_bytes.ensures.reads) (part_go _ c.in_ok-body.ensures (grown_end _ _))))
