use Rattle.std.proofs.Common.{◌≡◌, ℕ, Err, refl}
use Rattle.bitstream_io.specs.Codec.{and_then}
use Rattle.bitstream_io.specs.ReadTable.{unsigned_decoder}
use Rattle.bitstream_io.specs.Callers.{Failed, Order}
use Rattle.bitstream_io.proofs.CallerLemmas.{go_grown, stop_grown, part_go, part_stop}
use Rattle.flac_codec.specs.Predict.{fixed_weights, predicted, restored}
use Rattle.flac_codec.specs.Residual.{residual_decoder}
use Rattle.flac_codec.proofs.ResultLemmas.{fine_after_part, map_is, map_stop, store_done, store_refused}
use Rattle.flac_codec.proofs.reading.read_fixed.Goals as goal

residual-on_failed : (o : Order) (block_size order : ℕ) → (residual_decoder o block_size order).on_failed ≡ Err Failed
unfolding and_then unsigned_decoder
residual-on_failed o block_size order = refl

pub returns-in_err-samples : goal.returns-in_err-samples
returns-in_err-samples g c =
    stop_grown _ c.in_err-samples.ensures.reads
    (map_stop c.in_err-samples.field-0.0 c.from_residual.result c.from_residual.ensures.1)

pub returns-in_err-residual : goal.returns-in_err-residual
returns-in_err-residual g c =
    go_grown _ c.in_ok-samples.ensures.reads
    (part_stop _ c.in_err-residual.ensures
    (map_is c.in_err-residual.field-0.0 c.from_residual-in_err-residual.result c.from_residual-in_err-residual.ensures.1))

pub returns-in_err-restore_fixed : goal.returns-in_err-restore_fixed
returns-in_err-restore_fixed g c =
    let o = g.R.BitRead.source.order in
    let made = restored (predicted (fixed_weights c.args.order) 0) c.in_ok-samples.samples.items c.in_ok-residual.residual.items in
    go_grown _ c.in_ok-samples.ensures.reads
    (part_go _ c.in_ok-residual.ensures (store_refused made c.from_residual-in_err-restore_fixed.result
    (fine_after_part (residual-on_failed o c.args.block_size c.args.order) c.in_ok-residual.ensures)
    c.from_residual-in_err-restore_fixed.ensures.1))

pub returns : goal.returns
returns g c =
    let items = rw c.as_slice.ensures.value at c.in_ok-restore_fixed.ensures in
    go_grown _ c.in_ok-samples.ensures.reads (part_go _ c.in_ok-residual.ensures (store_done _ _ items))
