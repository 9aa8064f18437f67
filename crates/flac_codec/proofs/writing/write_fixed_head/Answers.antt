use Rattle.std.proofs.Common.{◌+◌}
use Rattle.bitstream_io.proofs.CallerLemmas.{is_error}
use Rattle.bitstream_io.proofs.WriteParts.{all_append, all_stop}
use Rattle.flac_codec.specs.Subframe.{head_writes, samples_writes}
use Rattle.flac_codec.proofs.writing.write_fixed_head.Goals as goal

pub returns-in_err-write_head : goal.returns-in_err-write_head
returns-in_err-write_head g c =
    let K = g.W.BitWrite.sink in
    all_stop K (head_writes K.order (8 + c.args.order) c.args.wasted) (samples_writes K.order c.args.width c.args.first.now) _ _ _ _
    (is_error _ _ c.from_residual.ensures.1) c.in_err-write_head.ensures

pub returns : goal.returns
returns g c =
    let K = g.W.BitWrite.sink in
    all_append K (head_writes K.order (8 + c.args.order) c.args.wasted) (samples_writes K.order c.args.width c.args.first.now) _ _ _ _
    c.in_ok-write_head.ensures c.write_samples.ensures
