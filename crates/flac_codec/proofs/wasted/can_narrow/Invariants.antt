use Rattle.std.proofs.Common.{take}
use Rattle.std.specs.List.{All}
use Rattle.flac_codec.specs.Wasted.{IsNarrow}
use Rattle.flac_codec.proofs.wasted.can_narrow.Given as goal

-- the samples so far have wasted bits
abbrev pub invariant-loop-sample : goal.invariant-loop-sample
invariant-loop-sample l = All (IsNarrow l.width l.wasted) (take l.sample-index l.samples)
