use Rattle.std.proofs.Common.{◌∙◌, refl}
use Rattle.flac_codec.specs.Predict.{predicted}
use Rattle.flac_codec.proofs.PredictLemmas.{restored-step, restored-end, one_longer}
use Rattle.flac_codec.proofs.predict.restore_by.Goals as goal

pub loop-difference-init : goal.loop-difference-init
loop-difference-init c = (refl, c.requires.enough)

pub predicted-prediction-requires-clause-enough : goal.predicted-prediction-requires-clause-enough
predicted-prediction-requires-clause-enough c = rw c.as_slice.ensures.value c.loop-difference.invariant.1

pub loop-difference-preserved : goal.loop-difference-preserved
loop-difference-preserved c =
    let more = rw c.as_slice.ensures.value at c.predicted-prediction.ensures in
    let item = rw more at c.in_ok-push.ensures.items in (
      restored-step (predicted c.args.weights.now c.args.shift) c.loop-difference.samples.items c.args.residual.now c.loop-difference.difference-index _ _ c.loop-difference-test.true item
          ∙ c.loop-difference.invariant.0,
      one_longer _ _ _ _ item c.loop-difference.invariant.1,
    )

pub returns : goal.returns
returns c = restored-end (predicted c.args.weights.now c.args.shift) c.loop-difference.samples.items c.args.residual.now c.loop-difference.difference-index c.loop-difference-test.false
    ∙ c.loop-difference.invariant.0
