use Rattle.std.proofs.Common.{arith, ◌≡◌, ◌+◌, ◌-◌, ◌<◌, ℕ, ℤ, List, Result, length, subst}
use Rattle.std.specs.Prelude.{map}
use Rattle.std.specs.Int.{int_shr}
use Rattle.std.specs.List.{All}
use Rattle.std.proofs.lemmas.List.{length-map}
use Rattle.bitstream_io.specs.Callers.{Error, Sink}
use Rattle.flac_codec.specs.Subframe.{subframe_decoder, widened, Encodes}
use Rattle.flac_codec.specs.Wasted.{IsNarrow}
use Rattle.flac_codec.proofs.SubframeLemmas.{narrow_again, narrow_fit}
use Rattle.flac_codec.proofs.writing.write_narrow.Goals as goal

as_narrow : {S : Type 0} (K : Sink S) (width wasted : ℕ) (xs : List ℤ) (s t : S) (r : Result (Unit {0}) Error) → wasted < width
    → All (IsNarrow width wasted) xs
    → Encodes K (subframe_decoder K.order ((width - wasted) + wasted) (length (map (λ x. int_shr x wasted) xs)))
    (map (widened wasted) (map (λ x. int_shr x wasted) xs)) s r t
    → Encodes K (subframe_decoder K.order width (length xs)) xs s r t
as_narrow K width wasted xs s t r fewer narrow h =
    let shifted = map (λ x. int_shr x wasted) xs in
    let same : (width - wasted) + wasted ≡ width = omega (arith, fewer) in
    let size : length shifted ≡ length xs = length-map xs (λ x. int_shr x wasted) in
    subst (λ (ys : List ℤ). Encodes K (subframe_decoder K.order width (length xs)) ys s r t) (narrow_again width wasted xs narrow)
    (subst (λ n. Encodes K (subframe_decoder K.order width n) (map (widened wasted) shifted) s r t) size
    (subst (λ n. Encodes K (subframe_decoder K.order n (length shifted)) (map (widened wasted) shifted) s r t) same h))

pub write_predicted-requires-clause-fit : goal.write_predicted-requires-clause-fit
write_predicted-requires-clause-fit g c =
    rw (c.as_slice.ensures.value, c.in_ok-narrow.ensures)
    (narrow_fit c.args.width c.args.wasted c.args.samples.now c.requires.narrow)

pub returns : goal.returns
returns g c =
    let written = rw (c.as_slice.ensures.value, c.in_ok-narrow.ensures) at c.write_predicted.ensures in
    as_narrow g.W.BitWrite.sink c.args.width c.args.wasted c.args.samples.now _ _ _ c.requires.fewer c.requires.narrow written
