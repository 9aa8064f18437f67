use Rattle.std.proofs.Common.{take}
use Rattle.std.specs.List.{All}
use Rattle.bitstream_io.specs.Callers.{FitsSignedBits}
use Rattle.flac_codec.proofs.linear.all_precise.Given as goal

-- the weights so far have so many bits
abbrev pub invariant-loop-weight : goal.invariant-loop-weight
invariant-loop-weight l = All (FitsSignedBits l.precision) (take l.weight-index l.weights)
