use Rattle.std.proofs.Common.{◌≡◌}
use Rattle.std.specs.Prelude.{map}
use Rattle.flac_codec.specs.Samples.{first_samples}
use Rattle.flac_codec.proofs.samples.sample_bytes.Given as goal

-- the samples of the places so far
abbrev pub invariant-loop-place : goal.invariant-loop-place
invariant-loop-place l =
    l.bytes.items ≡ first_samples l.sample_size (map (λ channel. channel.items) l.channels) l.place
