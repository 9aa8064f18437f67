use Rattle.std.proofs.Common.{◌≡◌, ℕ, Err, refl}
use Rattle.std.proofs.lemmas.Bool.{eq-eqb, ne_eqb}
use Rattle.bitstream_io.specs.Codec.{and_then}
use Rattle.bitstream_io.specs.ReadTable.{unsigned_decoder}
use Rattle.bitstream_io.specs.Callers.{Failed, Order}
use Rattle.bitstream_io.proofs.CallerLemmas.{go_grown, stop_grown, grown, grown_end, if_growing, else_growing, part_go, part_stop}
use Rattle.flac_codec.specs.Predict.{predicted, restored}
use Rattle.flac_codec.specs.Residual.{residual_decoder}
use Rattle.flac_codec.proofs.ResultLemmas.{fine_after_part, map_is, map_stop, store_done, store_refused}
use Rattle.flac_codec.proofs.reading.read_linear.Goals as goal

residual-on_failed : (o : Order) (block_size order : ℕ) → (residual_decoder o block_size order).on_failed ≡ Err Failed
unfolding and_then unsigned_decoder
residual-on_failed o block_size order = refl

pub returns-in_err-samples : goal.returns-in_err-samples
returns-in_err-samples g c =
    stop_grown _ c.in_err-samples.ensures.reads
    (map_stop c.in_err-samples.field-0.0 c.from_residual.result c.from_residual.ensures.1)

pub returns-in_err-precision : goal.returns-in_err-precision
returns-in_err-precision g c =
    go_grown _ c.in_ok-samples.ensures.reads (stop_grown _ (grown c.in_err-precision.ensures.reads)
    (map_stop c.in_err-precision.field-0.0 c.from_residual-in_err-precision.result c.from_residual-in_err-precision.ensures.1))

pub returns-then-precision-eq15 : goal.returns-then-precision-eq15
returns-then-precision-eq15 g c =
    go_grown _ c.in_ok-samples.ensures.reads (go_grown _ (grown c.in_ok-precision.ensures.reads) (
    if_growing _ _ _ (eq-eqb _ 15 c.if-precision-eq15.true) (grown_end _ _)))

pub returns-in_err-negative : goal.returns-in_err-negative
returns-in_err-negative g c =
    go_grown _ c.in_ok-samples.ensures.reads (go_grown _ (grown c.in_ok-precision.ensures.reads) (
    else_growing _ _ _ (ne_eqb _ 15 c.if-precision-eq15.false) (stop_grown _ (grown c.in_err-negative.ensures.reads)
    (map_stop c.in_err-negative.field-0.0 c.from_residual-in_err-negative.result c.from_residual-in_err-negative.ensures.1))))

pub returns-then-negative : goal.returns-then-negative
returns-then-negative g c =
    go_grown _ c.in_ok-samples.ensures.reads (go_grown _ (grown c.in_ok-precision.ensures.reads) (
    else_growing _ _ _ (ne_eqb _ 15 c.if-precision-eq15.false) (go_grown _ (grown c.in_ok-negative.ensures.reads)
    (if_growing _ _ _ c.if-negative.true (grown_end _ _)))))

pub returns-in_err-shift : goal.returns-in_err-shift
returns-in_err-shift g c =
    go_grown _ c.in_ok-samples.ensures.reads (go_grown _ (grown c.in_ok-precision.ensures.reads) (
    else_growing _ _ _ (ne_eqb _ 15 c.if-precision-eq15.false) (go_grown _ (grown c.in_ok-negative.ensures.reads)
    (else_growing _ _ _ c.if-negative.false (stop_grown _ (grown c.in_err-shift.ensures.reads)
    (map_stop c.in_err-shift.field-0.0 c.from_residual-in_err-shift.result c.from_residual-in_err-shift.ensures.1))))))

pub returns-in_err-coefficients : goal.returns-in_err-coefficients
returns-in_err-coefficients g c =
    go_grown _ c.in_ok-samples.ensures.reads (go_grown _ (grown c.in_ok-precision.ensures.reads) (
    else_growing _ _ _ (ne_eqb _ 15 c.if-precision-eq15.false) (go_grown _ (grown c.in_ok-negative.ensures.reads)
    (else_growing _ _ _ c.if-negative.false (go_grown _ (grown c.in_ok-shift.ensures.reads)
    (stop_grown _ c.in_err-coefficients.ensures.reads
    (map_stop c.in_err-coefficients.field-0.0 c.from_residual-in_err-coefficients.result
    c.from_residual-in_err-coefficients.ensures.1)))))))

pub returns-in_err-residual : goal.returns-in_err-residual
returns-in_err-residual g c =
    go_grown _ c.in_ok-samples.ensures.reads (go_grown _ (grown c.in_ok-precision.ensures.reads) (
    else_growing _ _ _ (ne_eqb _ 15 c.if-precision-eq15.false) (go_grown _ (grown c.in_ok-negative.ensures.reads)
    (else_growing _ _ _ c.if-negative.false (go_grown _ (grown c.in_ok-shift.ensures.reads)
    (go_grown _ c.in_ok-coefficients.ensures.reads (part_stop _ c.in_err-residual.ensures
    (map_is c.in_err-residual.field-0.0 c.from_residual-in_err-residual.result c.from_residual-in_err-residual.ensures.1))))))))

pub returns-in_err-restore : goal.returns-in_err-restore
returns-in_err-restore g c =
    let o = g.R.BitRead.source.order in
    let made = restored (predicted c.in_ok-coefficients.coefficients.items c.in_ok-shift.shift) c.in_ok-samples.samples.items
    c.in_ok-residual.residual.items in
    go_grown _ c.in_ok-samples.ensures.reads (go_grown _ (grown c.in_ok-precision.ensures.reads) (
    else_growing _ _ _ (ne_eqb _ 15 c.if-precision-eq15.false) (go_grown _ (grown c.in_ok-negative.ensures.reads)
    (else_growing _ _ _ c.if-negative.false (go_grown _ (grown c.in_ok-shift.ensures.reads)
    (go_grown _ c.in_ok-coefficients.ensures.reads (part_go _ c.in_ok-residual.ensures
    (store_refused made c.from_residual-in_err-restore.result
    (fine_after_part (residual-on_failed o c.args.block_size c.args.order) c.in_ok-residual.ensures)
    c.from_residual-in_err-restore.ensures.1))))))))

pub returns : goal.returns
returns g c =
    let items = rw (c.as_slice.ensures.value, c.as_slice-2.ensures.value) at c.in_ok-restore.ensures in
    go_grown _ c.in_ok-samples.ensures.reads (go_grown _ (grown c.in_ok-precision.ensures.reads) (
    else_growing _ _ _ (ne_eqb _ 15 c.if-precision-eq15.false) (go_grown _ (grown c.in_ok-negative.ensures.reads)
    (else_growing _ _ _ c.if-negative.false (go_grown _ (grown c.in_ok-shift.ensures.reads)
    (go_grown _ c.in_ok-coefficients.ensures.reads (part_go _ c.in_ok-residual.ensures (store_done _ _ items))))))))
