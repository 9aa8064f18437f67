use Rattle.std.proofs.Common.{◌≡◌, ◌≤◌, length, drop}
use Rattle.flac_codec.specs.Predict.{predicted, restored}
use Rattle.flac_codec.proofs.predict.restore_by.Given as goal

-- what is still to be restored makes the same samples
abbrev pub invariant-loop-difference : goal.invariant-loop-difference
invariant-loop-difference l =
    (restored (predicted l.weights l.shift) l.samples.items (drop l.difference-index l.residual)
    ≡ restored (predicted l.weights l.shift) l.initial.samples.items l.residual)
    × (length l.weights ≤ length l.samples.items)
