-- Made by `./format` from formats/log.fields: edit that file and make this one anew.
use Rattle.bitstream_io.proofs.GrowsLemmas.{go_grown, stop_grown, grown, part_go, part_stop, grown_end}
use Rattle.bitstream_io.proofs.OwnLemmas.{is_error}
use Rattle.bitstream_messages.proofs.log.Log.read.Goals as goal

pub returns-in_err-acks_bytes : goal.returns-in_err-acks_bytes
returns-in_err-acks_bytes g c = stop_grown _ (grown c.in_err-acks_bytes.ensures.reads) c.from_residual.ensures.1

pub returns-in_err-marks_bytes : goal.returns-in_err-marks_bytes
returns-in_err-marks_bytes g c = go_grown _ (grown c.in_ok-acks_bytes.ensures.reads) (stop_grown _ (grown
    c.in_err-marks_bytes.ensures.reads) c.from_residual-in_err-marks_bytes.ensures.1)

pub returns-in_err-acks : goal.returns-in_err-acks
returns-in_err-acks g c = go_grown _ (grown c.in_ok-acks_bytes.ensures.reads) (go_grown _ (grown
    c.in_ok-marks_bytes.ensures.reads) (part_stop _ c.in_err-acks.ensures (is_error _ _
    c.from_residual-in_err-acks.ensures.1)))

pub returns-in_err-marks : goal.returns-in_err-marks
returns-in_err-marks g c = go_grown _ (grown c.in_ok-acks_bytes.ensures.reads) (go_grown _ (grown
    c.in_ok-marks_bytes.ensures.reads) (part_go _ c.in_ok-acks.ensures (part_stop _ c.in_err-marks.ensures (is_error _ _
    c.from_residual-in_err-marks.ensures.1))))

pub returns : goal.returns
returns g c = go_grown _ (grown c.in_ok-acks_bytes.ensures.reads) (go_grown _ (grown c.in_ok-marks_bytes.ensures.reads)
    (part_go _ c.in_ok-acks.ensures (part_go _ c.in_ok-marks.ensures (grown_end _ _))))
