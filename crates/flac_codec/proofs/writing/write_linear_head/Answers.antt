use Rattle.std.proofs.Common.{◌++◌, ◌+◌, length}
use Rattle.bitstream_io.proofs.CallerLemmas.{is_error}
use Rattle.bitstream_io.proofs.WriteParts.{all_append, all_stop}
use Rattle.flac_codec.specs.Subframe.{head_writes, samples_writes, shift_writes}
use Rattle.flac_codec.proofs.writing.write_linear_head.Goals as goal

pub returns-in_err-write_head : goal.returns-in_err-write_head
returns-in_err-write_head g c =
    let K = g.W.BitWrite.sink in
    let first = samples_writes K.order c.args.width c.args.first.now in
    let shift = shift_writes K.order c.args.precision c.args.shift in
    let weights = samples_writes K.order c.args.precision c.args.weights.now in
    all_stop K (head_writes K.order (31 + length c.args.weights.now) c.args.wasted) (first ++ (shift ++ weights)) _ _ _ _
    (is_error _ _ c.from_residual.ensures.1) c.in_err-write_head.ensures

pub returns-in_err-write_samples : goal.returns-in_err-write_samples
returns-in_err-write_samples g c =
    let K = g.W.BitWrite.sink in
    let first = samples_writes K.order c.args.width c.args.first.now in
    let shift = shift_writes K.order c.args.precision c.args.shift in
    let weights = samples_writes K.order c.args.precision c.args.weights.now in
    all_append K (head_writes K.order (31 + length c.args.weights.now) c.args.wasted) (first ++ (shift ++ weights)) _ _ _ _
    c.in_ok-write_head.ensures
    (all_stop K first (shift ++ weights) _ _ _ _ (is_error _ _ c.from_residual-in_err-write_samples.ensures.1)
    c.in_err-write_samples.ensures)

pub returns-in_err-write_shift : goal.returns-in_err-write_shift
returns-in_err-write_shift g c =
    let K = g.W.BitWrite.sink in
    let first = samples_writes K.order c.args.width c.args.first.now in
    let shift = shift_writes K.order c.args.precision c.args.shift in
    let weights = samples_writes K.order c.args.precision c.args.weights.now in
    all_append K (head_writes K.order (31 + length c.args.weights.now) c.args.wasted) (first ++ (shift ++ weights)) _ _ _ _
    c.in_ok-write_head.ensures
    (all_append K first (shift ++ weights) _ _ _ _ c.in_ok-write_samples.ensures
    (all_stop K shift weights _ _ _ _ (is_error _ _ c.from_residual-in_err-write_shift.ensures.1) c.in_err-write_shift.ensures))

pub returns : goal.returns
returns g c =
    let K = g.W.BitWrite.sink in
    let first = samples_writes K.order c.args.width c.args.first.now in
    let shift = shift_writes K.order c.args.precision c.args.shift in
    let weights = samples_writes K.order c.args.precision c.args.weights.now in
    all_append K (head_writes K.order (31 + length c.args.weights.now) c.args.wasted) (first ++ (shift ++ weights)) _ _ _ _
    c.in_ok-write_head.ensures
    (all_append K first (shift ++ weights) _ _ _ _ c.in_ok-write_samples.ensures
    (all_append K shift weights _ _ _ _ c.in_ok-write_shift.ensures c.write_samples-2.ensures))
