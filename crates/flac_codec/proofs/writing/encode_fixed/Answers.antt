use Rattle.std.specs.Prelude.{map}
use Rattle.std.proofs.Common.{arith, ◌≡◌, ◌+◌, ◌++◌, ◌≤◌, ℕ, ℤ, List, Ok, length, take, drop, subst}
use Rattle.std.specs.List.{All}
use Rattle.std.proofs.lemmas.List.Elements.{All-take}
use Rattle.bitstream_io.specs.Callers.{Encoder, FitsSignedBits, Order}
use Rattle.bitstream_io.specs.ReadBack.{IsReadAs}
use Rattle.flac_codec.specs.Predict.{fixed_weights, predicted, residual}
use Rattle.flac_codec.specs.Residual.{residual_decoder}
use Rattle.flac_codec.specs.Subframe.{fixed_head, subframe_decoder, widened}
use Rattle.flac_codec.proofs.ResidualLemmas.{residual-calls, stopped-before, written-behind}
use Rattle.flac_codec.proofs.SubframeLemmas.{fixed-back, fixed-packs, residual-size}
use Rattle.flac_codec.proofs.writing.encode_fixed.Goals as goal

-- a residual that is written makes the samples, whatever its calls are
makes : (o : Order) (width wasted : ℕ) → 1 ≤ width → width + wasted ≤ 64 → (xs rest : List ℤ) (n : ℕ) → All (FitsSignedBits width) xs → n ≤ 4
    → n ≤ length xs → rest ≡ residual (predicted (fixed_weights n) 0) (take n xs) (drop n xs) → (es : List Encoder)
    → IsReadAs es (residual_decoder o (n + length rest) n) (Ok rest)
    → IsReadAs (fixed_head o width wasted n (take n xs) ++ es) (subframe_decoder o (width + wasted) (length xs))
    (Ok (map (widened wasted) xs))
makes o width wasted some within xs rest n fit most long is es read =
    let whole : n + length rest ≡ length xs = residual-size (predicted (fixed_weights n) 0) n xs rest long is in
    let same = subst (λ k. IsReadAs es (residual_decoder o k n) (Ok rest)) whole read in
    fixed-back o width some wasted within xs fit n es most long
    (subst (λ (r : List ℤ). IsReadAs es (residual_decoder o (length xs) n) (Ok r)) is same)

pub returns-in_err-write_fixed_head : goal.returns-in_err-write_fixed_head
returns-in_err-write_fixed_head g c =
    let o = g.W.BitWrite.sink.order in
    let width = c.args.width in
    let xs = c.args.samples.now in
    let n = c.args.order in
    stopped-before (fixed_head o width c.args.wasted n (take n xs))
    (fixed-packs o width c.requires.some (omega (arith, c.requires.within)) c.args.wasted n (take n xs) c.requires.most (All-take (FitsSignedBits width) n xs c.requires.fit)).accepted
    (makes o width c.args.wasted c.requires.some c.requires.within xs c.args.rest.now n c.requires.fit c.requires.most c.requires.long c.requires.is)
    (residual-calls o n c.args.rest.now c.requires.small) _ _ c.from_residual.ensures.1 c.in_err-write_fixed_head.ensures

pub returns : goal.returns
returns g c =
    let o = g.W.BitWrite.sink.order in
    let width = c.args.width in
    let xs = c.args.samples.now in
    let n = c.args.order in
    written-behind (fixed_head o width c.args.wasted n (take n xs))
    (fixed-packs o width c.requires.some (omega (arith, c.requires.within)) c.args.wasted n (take n xs) c.requires.most (All-take (FitsSignedBits width) n xs c.requires.fit)).accepted
    (makes o width c.args.wasted c.requires.some c.requires.within xs c.args.rest.now n c.requires.fit c.requires.most c.requires.long c.requires.is)
    c.in_ok-write_fixed_head.ensures c.write_residual.ensures
