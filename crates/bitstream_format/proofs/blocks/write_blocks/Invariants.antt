use Rattle.bitstream_io.specs.Loop.{ItemsWritten}
use Rattle.bitstream_format.specs.Blocks.{block_writes}
use Rattle.bitstream_format.proofs.blocks.write_blocks.Given as goal

-- the blocks so far were written
abbrev pub invariant-loop-block : goal.invariant-loop-block
invariant-loop-block g l =
    let K = g.W.BitWrite.sink in
    ItemsWritten K (block_writes K.order) l.blocks l.block-index l.initial.writer l.writer
