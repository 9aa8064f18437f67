use borrow.Author.Rules.{sfits_of}
use Rattle.std.proofs.Common.{pos, w64, SFits, slice_index_or}
use Rattle.std.proofs.lemmas.Int.{to_z-of_z}
use Rattle.std.proofs.lemmas.List.{take_all}
use Rattle.std.proofs.lemmas.List.Elements.{All-more}
use Rattle.bitstream_io.specs.Callers.{FitsSignedBits}
use Rattle.flac_codec.proofs.linear.all_precise.Goals as goal

pub loop-weight-preserved : goal.loop-weight-preserved
loop-weight-preserved c =
    let fits : SFits w64 (slice_index_or c.args.weights.now c.loop-weight.weight-index (pos 0)) = search sfits_of in
    let small = rw (to_z-of_z w64 _ fits) at (c.is_precise.ensures c.if-not-is_precise.false) in
    All-more (FitsSignedBits c.args.precision) c.args.weights.now c.loop-weight.weight-index (pos 0) c.loop-weight-test.true
    c.loop-weight.invariant small

pub returns : goal.returns
returns c = λ yes. rw (take_all _ c.args.weights.now c.loop-weight-test.false) at c.loop-weight.invariant
