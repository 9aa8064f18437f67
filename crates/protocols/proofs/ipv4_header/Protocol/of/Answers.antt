-- Made by `./format` from formats/ipv4_header.fields: edit that file and make this one anew.
use Rattle.std.proofs.Common.{refl}
use Rattle.std.proofs.lemmas.Bool.{eq-eqb, ne_eqb}
use Rattle.protocols.proofs.ipv4_header.Protocol.of.Goals as goal

pub returns-then-number-eq1 : goal.returns-then-number-eq1
returns-then-number-eq1 c = rw (eq-eqb _ 1 c.if-number-eq1.true) refl

pub returns-then-number-eq6 : goal.returns-then-number-eq6
returns-then-number-eq6 c = rw (ne_eqb _ 1 c.if-number-eq1.false, eq-eqb _ 6 c.if-number-eq6.true) refl

pub returns-then-number-eq17 : goal.returns-then-number-eq17
returns-then-number-eq17 c = rw (
  ne_eqb _ 1 c.if-number-eq1.false,
  ne_eqb _ 6 c.if-number-eq6.false,
  eq-eqb _ 17
      c.if-number-eq17.true,
) refl

pub returns : goal.returns
returns c = rw (ne_eqb _ 1 c.if-number-eq1.false, ne_eqb _ 6 c.if-number-eq6.false, ne_eqb _ 17 c.if-number-eq17.false)
    refl
