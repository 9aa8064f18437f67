-- Made by `./format` from formats/extensions.fields: edit that file and make this one anew.
use Rattle.bitstream_io.proofs.GrowsLemmas.{go_grown, stop_grown, grown, part_go, part_stop, grown_end}
use Rattle.bitstream_io.proofs.OwnLemmas.{is_error}
use Rattle.bitstream_messages.proofs.extensions.Extensions.read.Goals as goal

pub returns-in_err-items_bytes : goal.returns-in_err-items_bytes
returns-in_err-items_bytes g c = stop_grown _ (grown c.in_err-items_bytes.ensures.reads) c.from_residual.ensures.1

pub returns-in_err-items : goal.returns-in_err-items
returns-in_err-items g c = go_grown _ (grown c.in_ok-items_bytes.ensures.reads) (part_stop _ c.in_err-items.ensures
    (is_error _ _ c.from_residual-in_err-items.ensures.1))

pub returns : goal.returns
returns g c = go_grown _ (grown c.in_ok-items_bytes.ensures.reads) (part_go _ c.in_ok-items.ensures (grown_end _ _))
