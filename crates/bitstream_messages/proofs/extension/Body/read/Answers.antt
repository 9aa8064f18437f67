-- Made by `./format` from formats/extension.fields: edit that file and make this one anew.
use Rattle.std.proofs.Common.{refl, Ok, Err}
use Rattle.std.proofs.lemmas.Bool.{eq-eqb, ne_eqb}
use Rattle.bitstream_io.proofs.CallerLemmas.{if_growing, else_growing}
use Rattle.bitstream_io.proofs.EachLemmas.{grown_made}
use Rattle.bitstream_io.proofs.GrowsLemmas.{part_go, part_stop, grown_end}
use Rattle.bitstream_io.proofs.OwnLemmas.{is_error}
use Rattle.bitstream_messages.proofs.extension.Body.read.Goals as goal

pub returns-then-number-eq23 : goal.returns-then-number-eq23
returns-then-number-eq23 g c = if_growing _ _ _ (eq-eqb _ 23 c.if-number-eq23.true) (grown_end _ _)

pub returns-in_err-read : goal.returns-in_err-read
returns-in_err-read g c = else_growing _ _ _ (ne_eqb _ 23 c.if-number-eq23.false) (if_growing _ _ _ (eq-eqb _ 65281
    c.if-number-eq65281.true) (part_stop _ (grown_made _ (Err _) c.in_err-read.ensures (λ error is. rw is refl))
    (is_error _ _ c.from_residual.ensures.1)))

pub returns-then-number-eq65281 : goal.returns-then-number-eq65281
returns-then-number-eq65281 g c = else_growing _ _ _ (ne_eqb _ 23 c.if-number-eq23.false) (if_growing _ _ _ (eq-eqb _
    65281 c.if-number-eq65281.true) (part_go _ (grown_made _ (Ok _) c.in_ok-read.ensures (λ error is. absurd is))
    (grown_end _ _)))

pub returns-in_err-read-2 : goal.returns-in_err-read-2
returns-in_err-read-2 g c = else_growing _ _ _ (ne_eqb _ 23 c.if-number-eq23.false) (else_growing _ _ _ (ne_eqb _ 65281
    c.if-number-eq65281.false) (part_stop _ c.in_err-read-2.ensures (is_error _ _
    c.from_residual-in_err-read-2.ensures.1)))

pub returns : goal.returns
returns g c = else_growing _ _ _ (ne_eqb _ 23 c.if-number-eq23.false) (else_growing _ _ _ (ne_eqb _ 65281
    c.if-number-eq65281.false) (part_go _ c.in_ok-read-2.ensures (grown_end _ _)))
