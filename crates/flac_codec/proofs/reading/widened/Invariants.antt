use Rattle.std.proofs.Common.{◌≡◌, take}
use Rattle.std.specs.Prelude.{map}
use Rattle.flac_codec.specs.Subframe.{widened}
use Rattle.flac_codec.proofs.reading.widened.Given as goal

-- the samples so far
abbrev pub invariant-loop-sample : goal.invariant-loop-sample
invariant-loop-sample l = l.found.items ≡ map (widened l.wasted) (take l.sample-index l.samples)
