use Rattle.std.proofs.lemmas.Bool.{eq-eqb, ne_eqb}
use Rattle.bitstream_io.proofs.CallerLemmas.{go_grown, stop_grown, grown, grown_end, if_growing, else_growing}
use Rattle.flac_codec.proofs.ResultLemmas.{map_stop}
use Rattle.flac_codec.proofs.residual.read_residual.Goals as goal

pub returns-in_err-coding : goal.returns-in_err-coding
returns-in_err-coding g c =
    stop_grown _ (grown c.in_err-coding.ensures.reads)
    (map_stop c.in_err-coding.field-0.0 c.from_residual.result c.from_residual.ensures.1)

pub returns-then-coding-eq0 : goal.returns-then-coding-eq0
returns-then-coding-eq0 g c =
    go_grown _ (grown c.in_ok-coding.ensures.reads)
    (if_growing _ _ _ (eq-eqb _ 0 c.if-coding-eq0.true) c.read_partitioned.ensures)

pub returns-then-coding-eq1 : goal.returns-then-coding-eq1
returns-then-coding-eq1 g c =
    go_grown _ (grown c.in_ok-coding.ensures.reads) (else_growing _ _ _ (ne_eqb _ 0 c.if-coding-eq0.false)
    (if_growing _ _ _ (eq-eqb _ 1 c.if-coding-eq1.true) c.read_partitioned-then-coding-eq1.ensures))

pub returns : goal.returns
returns g c =
    go_grown _ (grown c.in_ok-coding.ensures.reads) (else_growing _ _ _ (ne_eqb _ 0 c.if-coding-eq0.false)
    (else_growing _ _ _ (ne_eqb _ 1 c.if-coding-eq1.false) (grown_end _ _)))
