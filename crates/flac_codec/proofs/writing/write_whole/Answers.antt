use Rattle.std.proofs.Common.{◌+◌, ◌≤◌, ℕ, ℤ, List, Result, add-zero, length, subst, w64, SFits}
use Rattle.std.specs.Prelude.{map}
use Rattle.std.specs.List.{All}
use Rattle.std.proofs.lemmas.List.Elements.{All-weaker}
use Rattle.bitstream_io.specs.Callers.{Error, FitsSignedBits, Sink}
use Rattle.flac_codec.specs.Subframe.{subframe_decoder, widened, Encodes}
use Rattle.flac_codec.proofs.SubframeLemmas.{all_widened_none, fits_wide}
use Rattle.flac_codec.proofs.writing.write_whole.Goals as goal

as_whole : {S : Type 0} (K : Sink S) (width : ℕ) (xs : List ℤ) (s t : S) (r : Result (Unit {0}) Error) → width ≤ 64
    → All (FitsSignedBits width) xs → Encodes K (subframe_decoder K.order (width + 0) (length xs)) (map (widened 0) xs) s r t
    → Encodes K (subframe_decoder K.order width (length xs)) xs s r t
as_whole K width xs s t r within fit h =
    let wide = All-weaker (FitsSignedBits width) (SFits w64) (λ x fits. fits_wide width x within fits) xs fit in
    subst (λ (ys : List ℤ). Encodes K (subframe_decoder K.order width (length xs)) ys s r t) (all_widened_none xs wide)
    (subst (λ n. Encodes K (subframe_decoder K.order n (length xs)) (map (widened 0) xs) s r t) (add-zero width) h)

pub returns : goal.returns
returns g c =
    as_whole g.W.BitWrite.sink c.args.width c.args.samples.now _ _ _ c.requires.within c.requires.fit c.write_predicted.ensures
