use Rattle.std.proofs.lemmas.Bool.{eq-eqb, ne_eqb}
use Rattle.bitstream_io.proofs.WriteParts.{all_none}
use Rattle.flac_codec.proofs.heading.write_block_size.Goals as goal

pub returns-then-code-eq6 : goal.returns-then-code-eq6
returns-then-code-eq6 g c = rw (eq-eqb c.args.code 6 c.if-code-eq6.true) c.write.ensures.writes

pub returns-then-code-eq7 : goal.returns-then-code-eq7
returns-then-code-eq7 g c =
    rw (ne_eqb c.args.code 6 c.if-code-eq6.false, eq-eqb c.args.code 7 c.if-code-eq7.true)
    c.write-then-code-eq7.ensures.writes

pub returns : goal.returns
returns g c =
    rw (ne_eqb c.args.code 6 c.if-code-eq6.false, ne_eqb c.args.code 7 c.if-code-eq7.false) (all_none _ _)
