-- Made by `./format` from formats/flac_block.fields: edit that file and make this one anew.
use Rattle.std.proofs.lemmas.Bool.{eq-eqb, ne_eqb}
use Rattle.bitstream_io.proofs.CallerLemmas.{if_growing, else_growing}
use Rattle.bitstream_io.proofs.GrowsLemmas.{go_grown, stop_grown, grown, part_go, part_stop, grown_end}
use Rattle.bitstream_io.proofs.OwnLemmas.{is_error}
use Rattle.media_messages.proofs.flac_block.Body.read.Goals as goal

pub returns-in_err-read : goal.returns-in_err-read
returns-in_err-read g c = if_growing _ _ _ (eq-eqb _ 0 c.if-number-eq0.true) (stop_grown _ (grown c.in_err-read.ensures)
    c.from_residual.ensures.1)

pub returns-then-number-eq0 : goal.returns-then-number-eq0
returns-then-number-eq0 g c = if_growing _ _ _ (eq-eqb _ 0 c.if-number-eq0.true) (go_grown _ (grown
    c.in_ok-read.ensures) (grown_end _ _))

pub returns-in_err-read-2 : goal.returns-in_err-read-2
returns-in_err-read-2 g c = else_growing _ _ _ (ne_eqb _ 0 c.if-number-eq0.false) (part_stop _ c.in_err-read-2.ensures
    (is_error _ _ c.from_residual-in_err-read-2.ensures.1))

pub returns : goal.returns
returns g c = else_growing _ _ _ (ne_eqb _ 0 c.if-number-eq0.false) (part_go _ c.in_ok-read-2.ensures (grown_end _ _))
