use Rattle.std.proofs.Common.{◌≡◌, ◌++◌, length, take, drop}
use Rattle.flac_codec.specs.Predict.{predicted, residual}
use Rattle.flac_codec.proofs.predict.residual_by.Given as goal

-- what is left so far, and then what is still to come
abbrev pub invariant-loop-at : goal.invariant-loop-at
invariant-loop-at l =
    l.residual.items ++ residual (predicted l.weights l.shift) (take l.at l.samples) (drop l.at l.samples)
    ≡ residual (predicted l.weights l.shift) (take (length l.weights) l.samples) (drop (length l.weights) l.samples)
