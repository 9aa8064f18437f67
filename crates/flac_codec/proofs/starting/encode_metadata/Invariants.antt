use Rattle.std.proofs.Common.{◌≤◌, ◌==◌, length}
use Rattle.flac_codec.specs.Encoding.{EndsMetadata}
use Rattle.flac_codec.proofs.starting.encode_metadata.Given as goal

-- the blocks from `left` on are encoded
abbrev pub invariant-loop-left : goal.invariant-loop-left
invariant-loop-left l =
    (l.left ≤ length l.blocks)
    × EndsMetadata (length l.blocks == l.left) l.bytes.items

abbrev pub decreases-loop-left : goal.decreases-loop-left
decreases-loop-left l = l.left
