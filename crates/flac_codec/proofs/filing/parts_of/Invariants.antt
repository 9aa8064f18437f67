use Rattle.std.proofs.Common.{◌≡◌, drop, take}
use Rattle.std.specs.Prelude.{map}
use Rattle.flac_codec.proofs.filing.parts_of.Given as goal

-- the parts so far are those of the channels so far
abbrev pub invariant-loop-channel : goal.invariant-loop-channel
invariant-loop-channel l =
    map (λ channel. channel.items) l.parts.items
    ≡ map (λ channel. take l.size (drop l.start channel.items)) (take l.channel-index l.channels)
