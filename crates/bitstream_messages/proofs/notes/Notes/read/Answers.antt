-- Made by `./format` from formats/notes.fields: edit that file and make this one anew.
use Rattle.bitstream_io.proofs.GrowsLemmas.{go_grown, stop_grown, grown, grown_end}
use Rattle.bitstream_messages.proofs.notes.Notes.read.Goals as goal

pub returns-in_err-place : goal.returns-in_err-place
returns-in_err-place g c = stop_grown _ (grown c.in_err-place.ensures.reads) c.from_residual.ensures.1

pub returns-in_err-levels_count : goal.returns-in_err-levels_count
returns-in_err-levels_count g c = go_grown _ (grown c.in_ok-place.ensures.reads) (stop_grown _ (grown
    c.in_err-levels_count.ensures.reads) c.from_residual-in_err-levels_count.ensures.1)

pub returns-in_err-levels : goal.returns-in_err-levels
returns-in_err-levels g c = go_grown _ (grown c.in_ok-place.ensures.reads) (go_grown _ (grown
    c.in_ok-levels_count.ensures.reads) (stop_grown _ c.in_err-levels.ensures c.from_residual-in_err-levels.ensures.1))

pub returns : goal.returns
returns g c = go_grown _ (grown c.in_ok-place.ensures.reads) (go_grown _ (grown c.in_ok-levels_count.ensures.reads)
    (go_grown _ c.in_ok-levels.ensures (grown_end _ _)))
