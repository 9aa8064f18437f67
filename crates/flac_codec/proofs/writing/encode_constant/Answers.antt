use Rattle.std.proofs.Common.{arith, ℤ, List, Ok, length, sym, subst, slice_index_or, w64, pos, SFits}
use Rattle.std.proofs.lemmas.Int.{to_z-of_z}
use Rattle.std.proofs.lemmas.List.Elements.{All-get_or}
use Rattle.bitstream_io.specs.Callers.{FitsSignedBits}
use Rattle.bitstream_io.proofs.CallerLemmas.{RoundTrip}
use Rattle.flac_codec.specs.Subframe.{constant_writes, subframe_decoder}
use Rattle.flac_codec.proofs.SubframeLemmas.{constant-back, constant-packs, fits_wide, value_written}
use Rattle.flac_codec.proofs.writing.encode_constant.Goals as goal

pub returns : goal.returns
returns g c =
    let o = g.W.BitWrite.sink.order in
    let width = c.args.width in
    let xs = c.args.samples.now in
    let x = slice_index_or xs 0 (pos 0) in
    let fits : FitsSignedBits width x =
    All-get_or (FitsSignedBits width) xs 0 (pos 0) (omega (arith, c.requires.nonempty)) c.requires.fit in
    let range : SFits w64 x = fits_wide width x c.requires.within fits in
    let writes = rw (to_z-of_z w64 x range) at c.write_constant.ensures in
    let back : RoundTrip (subframe_decoder o width (length xs)) (constant_writes o width x) (Ok xs) =
    subst (λ (ys : List ℤ). RoundTrip (subframe_decoder o width (length xs)) (constant_writes o width x) (Ok ys))
    (sym c.requires.equal) (constant-back o width c.requires.some c.requires.within (length xs) x fits) in
    value_written writes (constant-packs o width c.requires.some c.requires.within x fits) back
