use Rattle.std.proofs.Common.{[], ◌∷◌, w64}
use Rattle.std.proofs.lemmas.Int.{to_z-of_z}
use Rattle.bitstream_io.specs.Callers.{signed}
use Rattle.bitstream_io.proofs.CallerLemmas.{is_error}
use Rattle.bitstream_io.proofs.WriteParts.{all_append, all_stop}
use Rattle.flac_codec.specs.Subframe.{head_writes}
use Rattle.flac_codec.proofs.writing.write_constant.Goals as goal

pub returns-in_err-write_head : goal.returns-in_err-write_head
returns-in_err-write_head g c =
    let K = g.W.BitWrite.sink in
    all_stop K (head_writes K.order 0 0) (signed K.order 64 c.args.width c.args.sample ∷ []) _ _ _ _
    (is_error _ _ c.from_residual.ensures.1) c.in_err-write_head.ensures

pub returns : goal.returns
returns g c =
    let K = g.W.BitWrite.sink in
    let writes = rw (to_z-of_z w64 c.args.sample c.ranges.sample) at c.write_var.ensures.writes in
    all_append K (head_writes K.order 0 0) (signed K.order 64 c.args.width c.args.sample ∷ []) _ _ _ _
    c.in_ok-write_head.ensures writes
