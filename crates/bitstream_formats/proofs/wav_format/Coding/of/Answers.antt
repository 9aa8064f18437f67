-- Made by `./format` from formats/wav_format.fields: edit that file and make this one anew.
use Rattle.std.proofs.Common.{refl}
use Rattle.std.proofs.lemmas.Bool.{eq-eqb, ne_eqb}
use Rattle.bitstream_formats.proofs.wav_format.Coding.of.Goals as goal

pub returns-then-number-eq1 : goal.returns-then-number-eq1
returns-then-number-eq1 c = rw (eq-eqb _ 1 c.if-number-eq1.true) refl

pub returns-then-number-eq3 : goal.returns-then-number-eq3
returns-then-number-eq3 c = rw (ne_eqb _ 1 c.if-number-eq1.false, eq-eqb _ 3 c.if-number-eq3.true) refl

pub returns-then-number-eq6 : goal.returns-then-number-eq6
returns-then-number-eq6 c = rw (
  ne_eqb _ 1 c.if-number-eq1.false,
  ne_eqb _ 3 c.if-number-eq3.false,
  eq-eqb _ 6
      c.if-number-eq6.true,
) refl

pub returns-then-number-eq7 : goal.returns-then-number-eq7
returns-then-number-eq7 c = rw (
  ne_eqb _ 1 c.if-number-eq1.false,
  ne_eqb _ 3 c.if-number-eq3.false,
  ne_eqb _ 6
      c.if-number-eq6.false,
  eq-eqb _ 7 c.if-number-eq7.true,
) refl

pub returns-then-number-eq65534 : goal.returns-then-number-eq65534
returns-then-number-eq65534 c = rw (
  ne_eqb _ 1 c.if-number-eq1.false,
  ne_eqb _ 3 c.if-number-eq3.false,
  ne_eqb _ 6
      c.if-number-eq6.false,
  ne_eqb _ 7 c.if-number-eq7.false,
  eq-eqb _ 65534 c.if-number-eq65534.true,
) refl

pub returns : goal.returns
returns c = rw (
  ne_eqb _ 1 c.if-number-eq1.false,
  ne_eqb _ 3 c.if-number-eq3.false,
  ne_eqb _ 6
      c.if-number-eq6.false,
  ne_eqb _ 7 c.if-number-eq7.false,
  ne_eqb _ 65534 c.if-number-eq65534.false,
) refl
