-- Made by `./format` from formats/tftp_request.fields: edit that file and make this one anew.
use Rattle.std.proofs.Common.{refl}
use Rattle.std.proofs.lemmas.Bool.{eq-eqb, ne_eqb}
use Rattle.network_messages.proofs.tftp_request.Request.of.Goals as goal

pub returns-then-number-eq1 : goal.returns-then-number-eq1
returns-then-number-eq1 c = rw (eq-eqb _ 1 c.if-number-eq1.true) refl

pub returns-then-number-eq2 : goal.returns-then-number-eq2
returns-then-number-eq2 c = rw (ne_eqb _ 1 c.if-number-eq1.false, eq-eqb _ 2 c.if-number-eq2.true) refl

pub returns : goal.returns
returns c = rw (ne_eqb _ 1 c.if-number-eq1.false, ne_eqb _ 2 c.if-number-eq2.false) refl
