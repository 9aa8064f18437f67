use Rattle.std.specs.Prelude.{map}
use Rattle.std.proofs.Common.{arith, ◌≡◌, ◌+◌, ◌++◌, ◌≤◌, ℕ, ℤ, List, Ok, length, take, drop, subst}
use Rattle.std.specs.List.{All}
use Rattle.std.proofs.lemmas.List.Elements.{All-take}
use Rattle.bitstream_io.specs.Callers.{Encoder, FitsSignedBits, Order}
use Rattle.bitstream_io.specs.ReadBack.{IsReadAs}
use Rattle.flac_codec.specs.Linear.{IsPrediction}
use Rattle.flac_codec.specs.Predict.{predicted, residual}
use Rattle.flac_codec.specs.Residual.{residual_decoder}
use Rattle.flac_codec.specs.Subframe.{linear_head, subframe_decoder, widened}
use Rattle.flac_codec.specs.declared.linear.Prediction.{Prediction}
use Rattle.flac_codec.proofs.ResidualLemmas.{residual-calls, stopped-before, written-behind}
use Rattle.flac_codec.proofs.SubframeLemmas.{linear-back, linear-packs, residual-size}
use Rattle.flac_codec.proofs.writing.encode_linear.Goals as goal

-- a residual that is written makes the samples, whatever its calls are
makes : (o : Order) (width wasted : ℕ) → 1 ≤ width → width + wasted ≤ 64 → (xs rest : List ℤ) (p : Prediction) → All (FitsSignedBits width) xs
    → IsPrediction (length xs) p
    → rest ≡ residual (predicted p.weights.items p.shift) (take (length p.weights.items) xs) (drop (length p.weights.items) xs)
    → (es : List Encoder) → IsReadAs es (residual_decoder o (length p.weights.items + length rest) (length p.weights.items)) (Ok rest)
    → IsReadAs (linear_head o width wasted (take (length p.weights.items) xs) p.precision p.shift p.weights.items ++ es)
    (subframe_decoder o (width + wasted) (length xs)) (Ok (map (widened wasted) xs))
makes o width wasted some within xs rest p fit can is es read =
    let n = length p.weights.items in
    let whole : n + length rest ≡ length xs = residual-size (predicted p.weights.items p.shift) n xs rest can.long is in
    let same = subst (λ k. IsReadAs es (residual_decoder o k n) (Ok rest)) whole read in
    linear-back o width some wasted within xs fit p.weights.items p.precision p.shift es can.some can.most can.long can.narrow can.precise
    can.shift can.fit (subst (λ (r : List ℤ). IsReadAs es (residual_decoder o (length xs) n) (Ok r)) is same)

pub returns-in_err-write_linear_head : goal.returns-in_err-write_linear_head
returns-in_err-write_linear_head g c =
    let o = g.W.BitWrite.sink.order in
    let width = c.args.width in
    let xs = c.args.samples.now in
    let p = c.args.prediction.now in
    let can = c.requires.is in
    let n = length p.weights.items in
    let written = rw c.as_slice-weights.ensures.value at c.in_err-write_linear_head.ensures in
    stopped-before (linear_head o width c.args.wasted (take n xs) p.precision p.shift p.weights.items)
    (linear-packs o width c.requires.some (omega (arith, c.requires.within)) c.args.wasted p.precision p.shift (take n xs) p.weights.items can.most can.narrow
    can.precise can.shift (All-take (FitsSignedBits width) n xs c.requires.fit) can.fit).accepted
    (makes o width c.args.wasted c.requires.some c.requires.within xs c.args.rest.now p c.requires.fit can c.requires.rest)
    (residual-calls o n c.args.rest.now c.requires.small) _ _ c.from_residual.ensures.1 written

pub returns : goal.returns
returns g c =
    let o = g.W.BitWrite.sink.order in
    let width = c.args.width in
    let xs = c.args.samples.now in
    let p = c.args.prediction.now in
    let can = c.requires.is in
    let n = length p.weights.items in
    let head = rw c.as_slice-weights.ensures.value at c.in_ok-write_linear_head.ensures in
    let residual_written = rw c.as_slice-weights.ensures.value at c.write_residual.ensures in
    written-behind (linear_head o width c.args.wasted (take n xs) p.precision p.shift p.weights.items)
    (linear-packs o width c.requires.some (omega (arith, c.requires.within)) c.args.wasted p.precision p.shift (take n xs) p.weights.items can.most can.narrow
    can.precise can.shift (All-take (FitsSignedBits width) n xs c.requires.fit) can.fit).accepted
    (makes o width c.args.wasted c.requires.some c.requires.within xs c.args.rest.now p c.requires.fit can c.requires.rest)
    head residual_written
