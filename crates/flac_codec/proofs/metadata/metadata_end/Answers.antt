use Rattle.std.proofs.Common.{◌≡◌, ◌≤◌, ◌∙◌, ℕ, List, arith, length, refl, subst, sym}
use Rattle.flac_codec.specs.File.{metadata_end}
use Rattle.flac_codec.proofs.FileLemmas.{metadata-end, metadata-next, metadata-stop}
use Rattle.flac_codec.proofs.FoundLemmas.{rest-all}
use Rattle.flac_codec.proofs.ResultLemmas.{seen_is}
use Rattle.flac_codec.proofs.metadata.metadata_end.Goals as goal

pub loop-done-init : goal.loop-done-init
loop-done-init c = (length c.args.bytes.now, omega arith, refl)

pub returns-in_err-block : goal.returns-in_err-block
returns-in_err-block c =
    let same = rw c.loop-done-test.true at c.loop-done.invariant.2 in
    seen_is _ _ _ c.from_residual.ensures.1
    ∙ metadata-stop c.loop-done.invariant.0 c.loop-done.rest.now c.loop-done.invariant.1 c.in_err-block.ensures.found ∙ sym same

pub loop-done-preserved : goal.loop-done-preserved
loop-done-preserved c =
    let block = c.in_ok-block.block in
    let rest = c.loop-done.rest.now in
    let same = rw c.loop-done-test.true at c.loop-done.invariant.2 in
    let next = metadata-next c.loop-done.invariant.0 rest c.loop-done.invariant.1 c.in_ok-block.ensures.within.0
    c.in_ok-block.ensures.within.1 c.in_ok-block.ensures.found in
    subst (λ (xs : List ℕ). (n : ℕ) × (length xs ≤ n)
    × (metadata_end (length c.args.bytes.now) c.args.last c.args.bytes.now ≡ metadata_end n block.last xs))
    (sym (rest-all rest block.size)) (next.0, next.1, same ∙ next.2)

pub returns : goal.returns
returns c =
    let same = rw c.loop-done-test.false at c.loop-done.invariant.2 in
    metadata-end c.loop-done.invariant.0 c.loop-done.rest.now ∙ sym same
