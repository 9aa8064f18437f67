use Rattle.std.proofs.Common.{◌∙◌, refl}
use Rattle.flac_codec.specs.Predict.{predicted}
use Rattle.flac_codec.proofs.PredictLemmas.{residual-step, residual-end}
use Rattle.flac_codec.proofs.predict.residual_by.Goals as goal

pub loop-at-init : goal.loop-at-init
loop-at-init c = rw c.new-residual.ensures.items refl

pub loop-at-preserved : goal.loop-at-preserved
loop-at-preserved c =
    let item = rw c.predicted-prediction.ensures at c.in_ok-push.ensures.items in
    residual-step (predicted c.args.weights.now c.args.shift) c.loop-at.residual.items c.args.samples.now c.loop-at.at _ _ c.loop-at-test.true item
    ∙ c.loop-at.invariant

pub returns : goal.returns
returns c = residual-end (predicted c.args.weights.now c.args.shift) c.loop-at.residual.items c.args.samples.now c.loop-at.at c.loop-at-test.false ∙ c.loop-at.invariant
