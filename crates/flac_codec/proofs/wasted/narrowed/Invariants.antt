use Rattle.std.proofs.Common.{◌≡◌, take}
use Rattle.std.specs.Prelude.{map}
use Rattle.std.specs.Int.{int_shr}
use Rattle.flac_codec.proofs.wasted.narrowed.Given as goal

-- the samples so far
abbrev pub invariant-loop-sample : goal.invariant-loop-sample
invariant-loop-sample l = l.found.items ≡ map (λ x. int_shr x l.wasted) (take l.sample-index l.samples)
