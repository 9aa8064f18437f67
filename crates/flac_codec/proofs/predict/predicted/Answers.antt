use Rattle.std.proofs.Common.{arith, ◌≡◌, ◌∙◌, ◌+◌, ◌-◌, ◌*◌, ◌%◌, ◌^◌, ℕ, length, refl, sym, ap, add-one, slice_index_or, w64, pos, to_z, of_z}
use native.Mathlib.Nat.{mod-lt}
use Rattle.std.specs.Int.{int_shr}
use Rattle.std.proofs.Math.Facts.{of_z-to_z as unsigned_again}
use Rattle.std.proofs.lemmas.Int.{of_z-to_z, to_z-of_z}
use Rattle.flac_codec.specs.Predict.{predicted, weighted}
use Rattle.flac_codec.proofs.PredictLemmas.{predicted_fits}
use Rattle.flac_codec.proofs.predict.predicted.Goals as goal

pub loop-k-init : goal.loop-k-init
loop-k-init c = refl

pub loop-k-preserved : goal.loop-k-preserved
loop-k-preserved c =
    let so_far : c.loop-k.sum-bits ≡ weighted c.args.weights.now c.args.samples.now c.loop-k.k =
    sym (unsigned_again c.loop-k.auto.sum) ∙ c.loop-k.invariant in
    of_z-to_z w64 _ (mod-lt _ (omega arith))
    ∙ ap (λ (n : ℕ). (n + of_z w64 (slice_index_or c.args.weights.now c.loop-k.k (pos 0))
    * of_z w64 (slice_index_or c.args.samples.now (length c.args.samples.now - (c.loop-k.k + 1)) (pos 0)) % 2 ^ 64) % 2 ^ 64) so_far
    ∙ sym (ap (weighted c.args.weights.now c.args.samples.now) (add-one c.loop-k.k))

pub returns : goal.returns
returns c =
    let so_far : c.loop-k.sum-bits ≡ weighted c.args.weights.now c.args.samples.now c.loop-k.k =
    sym (unsigned_again c.loop-k.auto.sum) ∙ c.loop-k.invariant in
    let all : c.loop-k.k ≡ length c.args.weights.now = omega (arith, c.loop-k-test.false, c.loop-k.auto.k-end) in
    let same : int_shr (to_z w64 c.loop-k.sum-bits) c.args.shift ≡ predicted c.args.weights.now c.args.shift c.args.samples.now =
    ap (λ (n : ℕ). int_shr (to_z w64 n) c.args.shift) (so_far ∙ ap (weighted c.args.weights.now c.args.samples.now) all) in
    ap (λ x. to_z w64 (of_z w64 x)) same
    ∙ to_z-of_z w64 _ (predicted_fits c.args.weights.now c.args.shift c.args.samples.now)
