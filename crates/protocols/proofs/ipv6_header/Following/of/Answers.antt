-- Made by `./format` from formats/ipv6_header.fields: edit that file and make this one anew.
use Rattle.std.proofs.Common.{refl}
use Rattle.std.proofs.lemmas.Bool.{eq-eqb, ne_eqb}
use Rattle.protocols.proofs.ipv6_header.Following.of.Goals as goal

pub returns-then-number-eq0 : goal.returns-then-number-eq0
returns-then-number-eq0 c = rw (eq-eqb _ 0 c.if-number-eq0.true) refl

pub returns-then-number-eq6 : goal.returns-then-number-eq6
returns-then-number-eq6 c = rw (ne_eqb _ 0 c.if-number-eq0.false, eq-eqb _ 6 c.if-number-eq6.true) refl

pub returns-then-number-eq17 : goal.returns-then-number-eq17
returns-then-number-eq17 c = rw (
  ne_eqb _ 0 c.if-number-eq0.false,
  ne_eqb _ 6 c.if-number-eq6.false,
  eq-eqb _ 17
      c.if-number-eq17.true,
) refl

pub returns-then-number-eq43 : goal.returns-then-number-eq43
returns-then-number-eq43 c = rw (
  ne_eqb _ 0 c.if-number-eq0.false,
  ne_eqb _ 6 c.if-number-eq6.false,
  ne_eqb _ 17
      c.if-number-eq17.false,
  eq-eqb _ 43 c.if-number-eq43.true,
) refl

pub returns-then-number-eq44 : goal.returns-then-number-eq44
returns-then-number-eq44 c = rw (
  ne_eqb _ 0 c.if-number-eq0.false,
  ne_eqb _ 6 c.if-number-eq6.false,
  ne_eqb _ 17
      c.if-number-eq17.false,
  ne_eqb _ 43 c.if-number-eq43.false,
  eq-eqb _ 44 c.if-number-eq44.true,
) refl

pub returns-then-number-eq58 : goal.returns-then-number-eq58
returns-then-number-eq58 c = rw (
  ne_eqb _ 0 c.if-number-eq0.false,
  ne_eqb _ 6 c.if-number-eq6.false,
  ne_eqb _ 17
      c.if-number-eq17.false,
  ne_eqb _ 43 c.if-number-eq43.false,
  ne_eqb _ 44 c.if-number-eq44.false,
  eq-eqb _ 58
      c.if-number-eq58.true,
) refl

pub returns : goal.returns
returns c = rw (
  ne_eqb _ 0 c.if-number-eq0.false,
  ne_eqb _ 6 c.if-number-eq6.false,
  ne_eqb _ 17
      c.if-number-eq17.false,
  ne_eqb _ 43 c.if-number-eq43.false,
  ne_eqb _ 44 c.if-number-eq44.false,
  ne_eqb _ 58
      c.if-number-eq58.false,
) refl
