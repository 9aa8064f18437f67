use borrow.Author.Rules.{sfits_of}
use Rattle.std.proofs.Common.{◌∙◌, ℤ, SFits, pos, refl, slice_index_or, w64}
use Rattle.std.proofs.lemmas.Int.{to_z-of_z}
use Rattle.std.specs.Int.{int_shr, int_wrapping_sub}
use Rattle.flac_codec.proofs.ChannelLemmas.{combined-end, combined-short, combined-step}
use Rattle.flac_codec.proofs.channels.less.Goals as goal

pub loop-at-init : goal.loop-at-init
loop-at-init c = rw c.new-found.ensures.items refl

pub returns-then-at-ys : goal.returns-then-at-ys
returns-then-at-ys c =
    let f = λ (x y : ℤ). int_wrapping_sub w64 x (int_shr y c.args.shift) in
    combined-short f c.args.xs.now c.args.ys.now c.loop-at.at c.loop-at.found.items (pos 0) c.loop-at-test.true c.if-at-ys.true
    ∙ c.loop-at.invariant

pub loop-at-preserved : goal.loop-at-preserved
loop-at-preserved c =
    let f = λ (x y : ℤ). int_wrapping_sub w64 x (int_shr y c.args.shift) in
    let fits : SFits w64 (slice_index_or c.args.ys.now c.loop-at.at (pos 0)) = search sfits_of in
    let item = rw (to_z-of_z w64 _ fits) at c.in_ok-push.ensures.items in
    combined-step f c.args.xs.now c.args.ys.now c.loop-at.at c.loop-at.found.items _ (pos 0) (pos 0) c.loop-at-test.true
    c.if-at-ys.false item ∙ c.loop-at.invariant

pub returns : goal.returns
returns c =
    let f = λ (x y : ℤ). int_wrapping_sub w64 x (int_shr y c.args.shift) in
    combined-end f c.args.xs.now c.args.ys.now c.loop-at.at c.loop-at.found.items c.loop-at-test.false ∙ c.loop-at.invariant
