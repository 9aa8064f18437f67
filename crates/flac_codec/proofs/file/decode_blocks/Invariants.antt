use Rattle.std.proofs.Common.{◌≡◌, ◌≤◌, [], ℕ, length}
use Rattle.std.specs.Prelude.{map}
use Rattle.flac_codec.specs.File.{blocks_at}
use Rattle.flac_codec.proofs.file.decode_blocks.Given as goal

-- the frames are those so far, and then those of the bytes that are left
abbrev pub invariant-loop-rest : goal.invariant-loop-rest
invariant-loop-rest l =
    (n : ℕ) × (length l.rest ≤ n)
    × (blocks_at (length l.bytes) l.info l.bytes []
    ≡ blocks_at n l.info l.rest (map (λ block. map (λ channel. channel.items) block.items) l.blocks.items))

abbrev pub decreases-loop-rest : goal.decreases-loop-rest
decreases-loop-rest l = length l.rest
