use Rattle.std.proofs.Common.{◌≡◌, take}
use Rattle.std.specs.Prelude.{replicate}
use Rattle.flac_codec.proofs.choice.all_equal.Given as goal

-- the samples so far are the first one
abbrev pub invariant-loop-sample : goal.invariant-loop-sample
invariant-loop-sample l = take l.sample-index l.samples ≡ replicate l.sample-index l.first
