-- Made by `./format` from formats/eapol_packet.fields: edit that file and make this one anew.
use Rattle.std.proofs.Common.{refl}
use Rattle.std.proofs.lemmas.Bool.{eq-eqb, ne_eqb}
use Rattle.network_messages.proofs.eapol_packet.EapCode.of.Goals as goal

pub returns-then-number-eq1 : goal.returns-then-number-eq1
returns-then-number-eq1 c = rw (eq-eqb _ 1 c.if-number-eq1.true) refl

pub returns-then-number-eq2 : goal.returns-then-number-eq2
returns-then-number-eq2 c = rw (ne_eqb _ 1 c.if-number-eq1.false, eq-eqb _ 2 c.if-number-eq2.true) refl

pub returns-then-number-eq3 : goal.returns-then-number-eq3
returns-then-number-eq3 c = rw (
  ne_eqb _ 1 c.if-number-eq1.false,
  ne_eqb _ 2 c.if-number-eq2.false,
  eq-eqb _ 3
      c.if-number-eq3.true,
) refl

pub returns-then-number-eq4 : goal.returns-then-number-eq4
returns-then-number-eq4 c = rw (
  ne_eqb _ 1 c.if-number-eq1.false,
  ne_eqb _ 2 c.if-number-eq2.false,
  ne_eqb _ 3
      c.if-number-eq3.false,
  eq-eqb _ 4 c.if-number-eq4.true,
) refl

pub returns : goal.returns
returns c = rw (
  ne_eqb _ 1 c.if-number-eq1.false,
  ne_eqb _ 2 c.if-number-eq2.false,
  ne_eqb _ 3
      c.if-number-eq3.false,
  ne_eqb _ 4 c.if-number-eq4.false,
) refl
