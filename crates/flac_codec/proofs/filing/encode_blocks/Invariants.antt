use Rattle.std.proofs.Common.{◌≡◌, ◌-◌, ◌≤◌, [], ℕ, ℤ, List, get_or, length, take}
use Rattle.std.specs.Prelude.{map}
use Rattle.flac_codec.specs.File.{channel_of}
use Rattle.flac_codec.proofs.FileLemmas.{AreBlocks}
use Rattle.flac_codec.proofs.filing.encode_blocks.Given as goal

-- frames of the samples so far were encoded
abbrev pub invariant-loop-start : goal.invariant-loop-start
invariant-loop-start l =
    (blocks : List (List (List ℤ)))
    × AreBlocks l.sample_size (length l.channels) l.bytes.items l.number blocks
    × ((c : ℕ) → channel_of blocks c ≡ take l.start (get_or (map (λ channel. channel.items) l.channels) c []))
    × (l.number ≤ l.start)
    × (l.start ≤ l.count)

abbrev pub decreases-loop-start : goal.decreases-loop-start
decreases-loop-start l = l.count - l.start
