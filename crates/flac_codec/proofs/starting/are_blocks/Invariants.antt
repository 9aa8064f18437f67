use Rattle.std.proofs.Common.{take}
use Rattle.std.specs.List.{All}
use Rattle.flac_codec.specs.Encoding.{IsBlockOfMetadata}
use Rattle.flac_codec.proofs.starting.are_blocks.Given as goal

-- the blocks so far can be written
abbrev pub invariant-loop-block : goal.invariant-loop-block
invariant-loop-block l = All IsBlockOfMetadata (take l.block-index l.blocks)
