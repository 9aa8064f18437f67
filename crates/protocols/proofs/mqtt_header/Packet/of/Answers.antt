-- Made by `./format` from formats/mqtt_header.fields: edit that file and make this one anew.
use Rattle.std.proofs.Common.{refl}
use Rattle.std.proofs.lemmas.Bool.{eq-eqb, ne_eqb}
use Rattle.protocols.proofs.mqtt_header.Packet.of.Goals as goal

pub returns-then-number-eq1 : goal.returns-then-number-eq1
returns-then-number-eq1 c = rw (eq-eqb _ 1 c.if-number-eq1.true) refl

pub returns-then-number-eq2 : goal.returns-then-number-eq2
returns-then-number-eq2 c = rw (ne_eqb _ 1 c.if-number-eq1.false, eq-eqb _ 2 c.if-number-eq2.true) refl

pub returns-then-number-eq3 : goal.returns-then-number-eq3
returns-then-number-eq3 c = rw (
  ne_eqb _ 1 c.if-number-eq1.false,
  ne_eqb _ 2 c.if-number-eq2.false,
  eq-eqb _ 3
      c.if-number-eq3.true,
) refl

pub returns-then-number-eq4 : goal.returns-then-number-eq4
returns-then-number-eq4 c = rw (
  ne_eqb _ 1 c.if-number-eq1.false,
  ne_eqb _ 2 c.if-number-eq2.false,
  ne_eqb _ 3
      c.if-number-eq3.false,
  eq-eqb _ 4 c.if-number-eq4.true,
) refl

pub returns-then-number-eq5 : goal.returns-then-number-eq5
returns-then-number-eq5 c = rw (
  ne_eqb _ 1 c.if-number-eq1.false,
  ne_eqb _ 2 c.if-number-eq2.false,
  ne_eqb _ 3
      c.if-number-eq3.false,
  ne_eqb _ 4 c.if-number-eq4.false,
  eq-eqb _ 5 c.if-number-eq5.true,
) refl

pub returns-then-number-eq6 : goal.returns-then-number-eq6
returns-then-number-eq6 c = rw (
  ne_eqb _ 1 c.if-number-eq1.false,
  ne_eqb _ 2 c.if-number-eq2.false,
  ne_eqb _ 3
      c.if-number-eq3.false,
  ne_eqb _ 4 c.if-number-eq4.false,
  ne_eqb _ 5 c.if-number-eq5.false,
  eq-eqb _ 6
      c.if-number-eq6.true,
) refl

pub returns-then-number-eq7 : goal.returns-then-number-eq7
returns-then-number-eq7 c = rw (
  ne_eqb _ 1 c.if-number-eq1.false,
  ne_eqb _ 2 c.if-number-eq2.false,
  ne_eqb _ 3
      c.if-number-eq3.false,
  ne_eqb _ 4 c.if-number-eq4.false,
  ne_eqb _ 5 c.if-number-eq5.false,
  ne_eqb _ 6
      c.if-number-eq6.false,
  eq-eqb _ 7 c.if-number-eq7.true,
) refl

pub returns-then-number-eq8 : goal.returns-then-number-eq8
returns-then-number-eq8 c = rw (
  ne_eqb _ 1 c.if-number-eq1.false,
  ne_eqb _ 2 c.if-number-eq2.false,
  ne_eqb _ 3
      c.if-number-eq3.false,
  ne_eqb _ 4 c.if-number-eq4.false,
  ne_eqb _ 5 c.if-number-eq5.false,
  ne_eqb _ 6
      c.if-number-eq6.false,
  ne_eqb _ 7 c.if-number-eq7.false,
  eq-eqb _ 8 c.if-number-eq8.true,
) refl

pub returns-then-number-eq9 : goal.returns-then-number-eq9
returns-then-number-eq9 c = rw (
  ne_eqb _ 1 c.if-number-eq1.false,
  ne_eqb _ 2 c.if-number-eq2.false,
  ne_eqb _ 3
      c.if-number-eq3.false,
  ne_eqb _ 4 c.if-number-eq4.false,
  ne_eqb _ 5 c.if-number-eq5.false,
  ne_eqb _ 6
      c.if-number-eq6.false,
  ne_eqb _ 7 c.if-number-eq7.false,
  ne_eqb _ 8 c.if-number-eq8.false,
  eq-eqb _ 9
      c.if-number-eq9.true,
) refl

pub returns-then-number-eq10 : goal.returns-then-number-eq10
returns-then-number-eq10 c = rw (
  ne_eqb _ 1 c.if-number-eq1.false,
  ne_eqb _ 2 c.if-number-eq2.false,
  ne_eqb _ 3
      c.if-number-eq3.false,
  ne_eqb _ 4 c.if-number-eq4.false,
  ne_eqb _ 5 c.if-number-eq5.false,
  ne_eqb _ 6
      c.if-number-eq6.false,
  ne_eqb _ 7 c.if-number-eq7.false,
  ne_eqb _ 8 c.if-number-eq8.false,
  ne_eqb _ 9
      c.if-number-eq9.false,
  eq-eqb _ 10 c.if-number-eq10.true,
) refl

pub returns-then-number-eq11 : goal.returns-then-number-eq11
returns-then-number-eq11 c = rw (
  ne_eqb _ 1 c.if-number-eq1.false,
  ne_eqb _ 2 c.if-number-eq2.false,
  ne_eqb _ 3
      c.if-number-eq3.false,
  ne_eqb _ 4 c.if-number-eq4.false,
  ne_eqb _ 5 c.if-number-eq5.false,
  ne_eqb _ 6
      c.if-number-eq6.false,
  ne_eqb _ 7 c.if-number-eq7.false,
  ne_eqb _ 8 c.if-number-eq8.false,
  ne_eqb _ 9
      c.if-number-eq9.false,
  ne_eqb _ 10 c.if-number-eq10.false,
  eq-eqb _ 11 c.if-number-eq11.true,
) refl

pub returns-then-number-eq12 : goal.returns-then-number-eq12
returns-then-number-eq12 c = rw (
  ne_eqb _ 1 c.if-number-eq1.false,
  ne_eqb _ 2 c.if-number-eq2.false,
  ne_eqb _ 3
      c.if-number-eq3.false,
  ne_eqb _ 4 c.if-number-eq4.false,
  ne_eqb _ 5 c.if-number-eq5.false,
  ne_eqb _ 6
      c.if-number-eq6.false,
  ne_eqb _ 7 c.if-number-eq7.false,
  ne_eqb _ 8 c.if-number-eq8.false,
  ne_eqb _ 9
      c.if-number-eq9.false,
  ne_eqb _ 10 c.if-number-eq10.false,
  ne_eqb _ 11 c.if-number-eq11.false,
  eq-eqb _ 12
      c.if-number-eq12.true,
) refl

pub returns-then-number-eq13 : goal.returns-then-number-eq13
returns-then-number-eq13 c = rw (
  ne_eqb _ 1 c.if-number-eq1.false,
  ne_eqb _ 2 c.if-number-eq2.false,
  ne_eqb _ 3
      c.if-number-eq3.false,
  ne_eqb _ 4 c.if-number-eq4.false,
  ne_eqb _ 5 c.if-number-eq5.false,
  ne_eqb _ 6
      c.if-number-eq6.false,
  ne_eqb _ 7 c.if-number-eq7.false,
  ne_eqb _ 8 c.if-number-eq8.false,
  ne_eqb _ 9
      c.if-number-eq9.false,
  ne_eqb _ 10 c.if-number-eq10.false,
  ne_eqb _ 11 c.if-number-eq11.false,
  ne_eqb _ 12
      c.if-number-eq12.false,
  eq-eqb _ 13 c.if-number-eq13.true,
) refl

pub returns-then-number-eq14 : goal.returns-then-number-eq14
returns-then-number-eq14 c = rw (
  ne_eqb _ 1 c.if-number-eq1.false,
  ne_eqb _ 2 c.if-number-eq2.false,
  ne_eqb _ 3
      c.if-number-eq3.false,
  ne_eqb _ 4 c.if-number-eq4.false,
  ne_eqb _ 5 c.if-number-eq5.false,
  ne_eqb _ 6
      c.if-number-eq6.false,
  ne_eqb _ 7 c.if-number-eq7.false,
  ne_eqb _ 8 c.if-number-eq8.false,
  ne_eqb _ 9
      c.if-number-eq9.false,
  ne_eqb _ 10 c.if-number-eq10.false,
  ne_eqb _ 11 c.if-number-eq11.false,
  ne_eqb _ 12
      c.if-number-eq12.false,
  ne_eqb _ 13 c.if-number-eq13.false,
  eq-eqb _ 14 c.if-number-eq14.true,
) refl

pub returns-then-number-eq15 : goal.returns-then-number-eq15
returns-then-number-eq15 c = rw (
  ne_eqb _ 1 c.if-number-eq1.false,
  ne_eqb _ 2 c.if-number-eq2.false,
  ne_eqb _ 3
      c.if-number-eq3.false,
  ne_eqb _ 4 c.if-number-eq4.false,
  ne_eqb _ 5 c.if-number-eq5.false,
  ne_eqb _ 6
      c.if-number-eq6.false,
  ne_eqb _ 7 c.if-number-eq7.false,
  ne_eqb _ 8 c.if-number-eq8.false,
  ne_eqb _ 9
      c.if-number-eq9.false,
  ne_eqb _ 10 c.if-number-eq10.false,
  ne_eqb _ 11 c.if-number-eq11.false,
  ne_eqb _ 12
      c.if-number-eq12.false,
  ne_eqb _ 13 c.if-number-eq13.false,
  ne_eqb _ 14 c.if-number-eq14.false,
  eq-eqb _ 15
      c.if-number-eq15.true,
) refl

pub returns : goal.returns
returns c = rw (
  ne_eqb _ 1 c.if-number-eq1.false,
  ne_eqb _ 2 c.if-number-eq2.false,
  ne_eqb _ 3
      c.if-number-eq3.false,
  ne_eqb _ 4 c.if-number-eq4.false,
  ne_eqb _ 5 c.if-number-eq5.false,
  ne_eqb _ 6
      c.if-number-eq6.false,
  ne_eqb _ 7 c.if-number-eq7.false,
  ne_eqb _ 8 c.if-number-eq8.false,
  ne_eqb _ 9
      c.if-number-eq9.false,
  ne_eqb _ 10 c.if-number-eq10.false,
  ne_eqb _ 11 c.if-number-eq11.false,
  ne_eqb _ 12
      c.if-number-eq12.false,
  ne_eqb _ 13 c.if-number-eq13.false,
  ne_eqb _ 14 c.if-number-eq14.false,
  ne_eqb _ 15
      c.if-number-eq15.false,
) refl
