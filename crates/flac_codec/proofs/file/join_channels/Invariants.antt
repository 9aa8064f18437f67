use Rattle.std.proofs.Common.{◌≡◌}
use Rattle.std.specs.Prelude.{map}
use Rattle.flac_codec.specs.File.{channels_of}
use Rattle.flac_codec.proofs.file.join_channels.Given as goal

-- the channels so far are joined
abbrev pub invariant-loop-number : goal.invariant-loop-number
invariant-loop-number l =
    map (λ channel. channel.items) l.channels.items
    ≡ channels_of (map (λ block. map (λ channel. channel.items) block.items) l.blocks) l.number
