use Rattle.std.proofs.Common.{◌≡◌, take}
use Rattle.std.specs.Prelude.{map}
use Rattle.flac_codec.specs.File.{channel_of}
use Rattle.flac_codec.proofs.file.join_channel.Given as goal

-- the samples are those of the frames so far
abbrev pub invariant-loop-block : goal.invariant-loop-block
invariant-loop-block l =
    l.samples.items
    ≡ channel_of (map (λ block. map (λ channel. channel.items) block.items) (take l.block-index l.blocks)) l.number
