use Rattle.std.proofs.Common.{pos, refl}
use Rattle.std.specs.Prelude.{replicate}
use Rattle.std.proofs.lemmas.Bool.{eq-eqb, ne_eqb}
use Rattle.bitstream_io.specs.ReadTable.{unsigned_decoder}
use Rattle.bitstream_io.proofs.CallerLemmas.{go_grown, stop_grown, grown, grown_end, if_growing, else_growing}
use Rattle.flac_codec.proofs.ResultLemmas.{fine_after, map_stop, store_done, store_refused}
use Rattle.flac_codec.proofs.residual.read_escaped.Goals as goal

pub returns-in_err-width : goal.returns-in_err-width
returns-in_err-width g c =
    stop_grown _ (grown c.in_err-width.ensures.reads)
    (map_stop c.in_err-width.field-0.0 c.from_residual.result c.from_residual.ensures.1)

pub returns-in_err-repeated : goal.returns-in_err-repeated
unfolding unsigned_decoder
returns-in_err-repeated g c =
    let read = grown c.in_ok-width.ensures.reads in
    go_grown _ read (if_growing _ _ _ (eq-eqb _ 0 c.if-width-eq0.true)
    (store_refused (replicate c.args.count (pos 0)) c.from_residual-in_err-repeated.result (fine_after refl read)
    c.from_residual-in_err-repeated.ensures.1))

pub returns-then-width-eq0 : goal.returns-then-width-eq0
returns-then-width-eq0 g c =
    go_grown _ (grown c.in_ok-width.ensures.reads) (if_growing _ _ _ (eq-eqb _ 0 c.if-width-eq0.true)
    (store_done _ _ c.in_ok-repeated.ensures))

pub returns-in_err-read_samples : goal.returns-in_err-read_samples
returns-in_err-read_samples g c =
    go_grown _ (grown c.in_ok-width.ensures.reads) (else_growing _ _ _ (ne_eqb _ 0 c.if-width-eq0.false)
    (stop_grown _ c.in_err-read_samples.ensures.reads
    (map_stop c.in_err-read_samples.field-0.0 c.from_residual-in_err-read_samples.result c.from_residual-in_err-read_samples.ensures.1)))

pub returns : goal.returns
returns g c =
    go_grown _ (grown c.in_ok-width.ensures.reads) (else_growing _ _ _ (ne_eqb _ 0 c.if-width-eq0.false)
    (go_grown _ c.in_ok-read_samples.ensures.reads (grown_end _ _)))
