use Rattle.std.proofs.Common.{◌≡◌, take}
use Rattle.std.specs.Prelude.{map}
use Rattle.flac_codec.specs.Samples.{samples_at}
use Rattle.flac_codec.proofs.samples.samples_at.Given as goal

-- the samples of the channels so far
abbrev pub invariant-loop-channel : goal.invariant-loop-channel
invariant-loop-channel l =
    l.bytes.items ≡ samples_at l.sample_size (map (λ channel. channel.items) (take l.channel-index l.channels)) l.place
