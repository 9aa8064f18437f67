use Rattle.bitstream_format.proofs.BlocksLemmas.{BlocksSoFar}
use Rattle.bitstream_format.proofs.blocks.read_blocks.Given as goal

-- the blocks so far were read, and none of them is empty
abbrev pub invariant-loop : goal.invariant-loop
invariant-loop g l = BlocksSoFar g.R.BitRead.source l.counter l.initial.reader l.found.items l.reader
