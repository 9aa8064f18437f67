-- Made by `./format` from formats/event.fields: edit that file and make this one anew.
use Rattle.std.proofs.Common.{refl, Ok, Err}
use Rattle.std.proofs.lemmas.Bool.{eq-eqb, ne_eqb}
use Rattle.bitstream_io.proofs.CallerLemmas.{own_made, next_own_read as next, exit_own_read as exit}
use Rattle.bitstream_io.proofs.OwnSteps.{if_own, else_own, then_part, end_part, own_end}
use Rattle.bitstream_messages.proofs.event.What.read.Goals as goal

pub returns-in_err-read : goal.returns-in_err-read
returns-in_err-read g c = if_own _ _ _ (eq-eqb _ 0 c.if-number-eq0.true) (end_part _ (own_made _ (Err _)
    c.in_err-read.ensures (λ error is. rw is refl)) refl refl c.from_residual.ensures.1)

pub returns-then-number-eq0 : goal.returns-then-number-eq0
returns-then-number-eq0 g c = if_own _ _ _ (eq-eqb _ 0 c.if-number-eq0.true) (then_part _ (own_made _ (Ok _)
    c.in_ok-read.ensures (λ error is. absurd is)) refl refl (own_end _ _))

pub returns-in_err-read-2 : goal.returns-in_err-read-2
returns-in_err-read-2 g c = else_own _ _ _ (ne_eqb _ 0 c.if-number-eq0.false) (if_own _ _ _ (eq-eqb _ 1
    c.if-number-eq1.true) (exit _ c.from_residual-in_err-read-2.ensures.1 c.in_err-read-2.ensures))

pub returns-then-number-eq1 : goal.returns-then-number-eq1
returns-then-number-eq1 g c = else_own _ _ _ (ne_eqb _ 0 c.if-number-eq0.false) (if_own _ _ _ (eq-eqb _ 1
    c.if-number-eq1.true) (next _ c.in_ok-read-2.ensures (own_end _ _)))

pub returns-then-number-eq2 : goal.returns-then-number-eq2
returns-then-number-eq2 g c = else_own _ _ _ (ne_eqb _ 0 c.if-number-eq0.false) (else_own _ _ _ (ne_eqb _ 1
    c.if-number-eq1.false) (if_own _ _ _ (eq-eqb _ 2 c.if-number-eq2.true) (own_end _ _)))

pub returns : goal.returns
returns g c = else_own _ _ _ (ne_eqb _ 0 c.if-number-eq0.false) (else_own _ _ _ (ne_eqb _ 1 c.if-number-eq1.false)
    (else_own _ _ _ (ne_eqb _ 2 c.if-number-eq2.false) (own_end _ _)))
