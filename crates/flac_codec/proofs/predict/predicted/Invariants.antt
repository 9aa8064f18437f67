use Rattle.std.proofs.Common.{◌≡◌, w64, of_z}
use Rattle.flac_codec.specs.Predict.{weighted}
use Rattle.flac_codec.proofs.predict.predicted.Given as goal

-- the sum so far
abbrev pub invariant-loop-k : goal.invariant-loop-k
invariant-loop-k l = of_z w64 l.sum ≡ weighted l.weights l.samples l.k
