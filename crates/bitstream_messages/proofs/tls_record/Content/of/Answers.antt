-- Made by `./format` from formats/tls_record.fields: edit that file and make this one anew.
use Rattle.std.proofs.Common.{refl}
use Rattle.std.proofs.lemmas.Bool.{eq-eqb, ne_eqb}
use Rattle.bitstream_messages.proofs.tls_record.Content.of.Goals as goal

pub returns-then-number-eq20 : goal.returns-then-number-eq20
returns-then-number-eq20 c = rw (eq-eqb _ 20 c.if-number-eq20.true) refl

pub returns-then-number-eq21 : goal.returns-then-number-eq21
returns-then-number-eq21 c = rw (ne_eqb _ 20 c.if-number-eq20.false, eq-eqb _ 21 c.if-number-eq21.true) refl

pub returns-then-number-eq22 : goal.returns-then-number-eq22
returns-then-number-eq22 c = rw (
  ne_eqb _ 20 c.if-number-eq20.false,
  ne_eqb _ 21 c.if-number-eq21.false,
  eq-eqb _ 22
      c.if-number-eq22.true,
) refl

pub returns-then-number-eq23 : goal.returns-then-number-eq23
returns-then-number-eq23 c = rw (
  ne_eqb _ 20 c.if-number-eq20.false,
  ne_eqb _ 21 c.if-number-eq21.false,
  ne_eqb _ 22
      c.if-number-eq22.false,
  eq-eqb _ 23 c.if-number-eq23.true,
) refl

pub returns : goal.returns
returns c = rw (
  ne_eqb _ 20 c.if-number-eq20.false,
  ne_eqb _ 21 c.if-number-eq21.false,
  ne_eqb _ 22
      c.if-number-eq22.false,
  ne_eqb _ 23 c.if-number-eq23.false,
) refl
