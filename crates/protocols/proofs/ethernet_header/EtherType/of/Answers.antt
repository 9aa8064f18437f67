-- Made by `./format` from formats/ethernet_header.fields: edit that file and make this one anew.
use Rattle.std.proofs.Common.{refl}
use Rattle.std.proofs.lemmas.Bool.{eq-eqb, ne_eqb}
use Rattle.protocols.proofs.ethernet_header.EtherType.of.Goals as goal

pub returns-then-number-eq2048 : goal.returns-then-number-eq2048
returns-then-number-eq2048 c = rw (eq-eqb _ 2048 c.if-number-eq2048.true) refl

pub returns-then-number-eq2054 : goal.returns-then-number-eq2054
returns-then-number-eq2054 c = rw (ne_eqb _ 2048 c.if-number-eq2048.false, eq-eqb _ 2054 c.if-number-eq2054.true) refl

pub returns-then-number-eq33024 : goal.returns-then-number-eq33024
returns-then-number-eq33024 c = rw (
  ne_eqb _ 2048 c.if-number-eq2048.false,
  ne_eqb _ 2054
      c.if-number-eq2054.false,
  eq-eqb _ 33024 c.if-number-eq33024.true,
) refl

pub returns-then-number-eq34525 : goal.returns-then-number-eq34525
returns-then-number-eq34525 c = rw (
  ne_eqb _ 2048 c.if-number-eq2048.false,
  ne_eqb _ 2054
      c.if-number-eq2054.false,
  ne_eqb _ 33024 c.if-number-eq33024.false,
  eq-eqb _ 34525 c.if-number-eq34525.true,
) refl

pub returns : goal.returns
returns c = rw (
  ne_eqb _ 2048 c.if-number-eq2048.false,
  ne_eqb _ 2054 c.if-number-eq2054.false,
  ne_eqb _ 33024
      c.if-number-eq33024.false,
  ne_eqb _ 34525 c.if-number-eq34525.false,
) refl
