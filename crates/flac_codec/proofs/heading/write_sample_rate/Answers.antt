use Rattle.std.proofs.lemmas.Bool.{eq-eqb, ne_eqb}
use Rattle.bitstream_io.proofs.WriteParts.{all_none}
use Rattle.flac_codec.proofs.heading.write_sample_rate.Goals as goal

pub returns-then-code-eq12 : goal.returns-then-code-eq12
returns-then-code-eq12 g c = rw (eq-eqb c.args.code 12 c.if-code-eq12.true) c.write.ensures.writes

pub returns-then-code-eq13 : goal.returns-then-code-eq13
returns-then-code-eq13 g c =
    rw (ne_eqb c.args.code 12 c.if-code-eq12.false, eq-eqb c.args.code 13 c.if-code-eq13.true)
    c.write-then-code-eq13.ensures.writes

pub returns-then-code-eq14 : goal.returns-then-code-eq14
returns-then-code-eq14 g c =
    rw (
      ne_eqb c.args.code 12 c.if-code-eq12.false,
      ne_eqb c.args.code 13 c.if-code-eq13.false,
      eq-eqb c.args.code 14 c.if-code-eq14.true,
    ) c.write-then-code-eq14.ensures.writes

pub returns : goal.returns
returns g c =
    rw (
      ne_eqb c.args.code 12 c.if-code-eq12.false,
      ne_eqb c.args.code 13 c.if-code-eq13.false,
      ne_eqb c.args.code 14 c.if-code-eq14.false,
    ) (all_none _ _)
