-- Made by `./format` from formats/renegotiation.fields: edit that file and make this one anew.
use Rattle.bitstream_io.proofs.GrowsLemmas.{go_grown, stop_grown, grown, vec-grown, grown_end}
use Rattle.bitstream_messages.proofs.renegotiation.Renegotiation.read.Goals as goal

pub returns-in_err-key_count : goal.returns-in_err-key_count
returns-in_err-key_count g c = stop_grown _ (grown c.in_err-key_count.ensures.reads) c.from_residual.ensures.1

pub returns-in_err-key : goal.returns-in_err-key
returns-in_err-key g c = go_grown _ (grown c.in_ok-key_count.ensures.reads) (stop_grown _ (vec-grown _ _
    c.in_err-key.ensures.reads) c.from_residual-in_err-key.ensures.1)

pub returns : goal.returns
returns g c = go_grown _ (grown c.in_ok-key_count.ensures.reads) (go_grown _ (vec-grown _ _ c.in_ok-key.ensures.reads)
    (grown_end _ _))
