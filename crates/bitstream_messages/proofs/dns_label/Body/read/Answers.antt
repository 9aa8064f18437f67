-- Made by `./format` from formats/dns_label.fields: edit that file and make this one anew.
use Rattle.std.proofs.Common.{refl, Ok, Err}
use Rattle.std.proofs.lemmas.Bool.{eq-eqb, ne_eqb}
use Rattle.bitstream_io.proofs.CallerLemmas.{if_growing, else_growing}
use Rattle.bitstream_io.proofs.EachLemmas.{grown_made}
use Rattle.bitstream_io.proofs.GrowsLemmas.{go_grown, stop_grown, grown, part_go, part_stop, grown_end}
use Rattle.bitstream_io.proofs.OwnLemmas.{is_error}
use Rattle.bitstream_messages.proofs.dns_label.Body.read.Goals as goal

pub returns-in_err-read : goal.returns-in_err-read
returns-in_err-read g c = if_growing _ _ _ (eq-eqb _ 0 c.if-number-eq0.true) (part_stop _ (grown_made _ (Err _)
    c.in_err-read.ensures (λ error is. rw is refl)) (is_error _ _ c.from_residual.ensures.1))

pub returns-then-number-eq0 : goal.returns-then-number-eq0
returns-then-number-eq0 g c = if_growing _ _ _ (eq-eqb _ 0 c.if-number-eq0.true) (part_go _ (grown_made _ (Ok _)
    c.in_ok-read.ensures (λ error is. absurd is)) (grown_end _ _))

pub returns-in_err-read-2 : goal.returns-in_err-read-2
returns-in_err-read-2 g c = else_growing _ _ _ (ne_eqb _ 0 c.if-number-eq0.false) (if_growing _ _ _ (eq-eqb _ 3
    c.if-number-eq3.true) (stop_grown _ (grown c.in_err-read-2.ensures) c.from_residual-in_err-read-2.ensures.1))

pub returns-then-number-eq3 : goal.returns-then-number-eq3
returns-then-number-eq3 g c = else_growing _ _ _ (ne_eqb _ 0 c.if-number-eq0.false) (if_growing _ _ _ (eq-eqb _ 3
    c.if-number-eq3.true) (go_grown _ (grown c.in_ok-read-2.ensures) (grown_end _ _)))

pub returns : goal.returns
returns g c = else_growing _ _ _ (ne_eqb _ 0 c.if-number-eq0.false) (else_growing _ _ _ (ne_eqb _ 3
    c.if-number-eq3.false) (grown_end _ _))
