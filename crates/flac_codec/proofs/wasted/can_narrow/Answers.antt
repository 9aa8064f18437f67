use borrow.Author.Rules.{sfits_of}
use Rattle.std.proofs.Common.{pos, w64, SFits, slice_index_or}
use Rattle.std.proofs.lemmas.Int.{to_z-of_z}
use Rattle.std.proofs.lemmas.List.{take_all}
use Rattle.std.proofs.lemmas.List.Elements.{All-more}
use Rattle.flac_codec.specs.Wasted.{IsNarrow}
use Rattle.flac_codec.proofs.wasted.can_narrow.Goals as goal

pub loop-sample-preserved : goal.loop-sample-preserved
loop-sample-preserved c =
    let fits : SFits w64 (slice_index_or c.args.samples.now c.loop-sample.sample-index (pos 0)) = search sfits_of in
    let narrow = rw (to_z-of_z w64 _ fits) at (c.is_narrow.ensures c.if-not-is_narrow.false) in
    All-more (IsNarrow c.args.width c.args.wasted) c.args.samples.now c.loop-sample.sample-index (pos 0) c.loop-sample-test.true
    c.loop-sample.invariant narrow

pub returns-clause-narrow : goal.returns-clause-narrow
returns-clause-narrow c = λ yes. rw (take_all _ c.args.samples.now c.loop-sample-test.false) at c.loop-sample.invariant
