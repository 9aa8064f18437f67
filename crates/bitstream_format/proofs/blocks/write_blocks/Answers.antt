use Rattle.std.proofs.Common.{arith}
use Rattle.bitstream_io.proofs.CallerLemmas.{written-begin, written-more}
use Rattle.bitstream_format.specs.Blocks.{block_writes}
use Rattle.bitstream_format.proofs.BlocksLemmas.{blocks-unwritten, blocks-written}
use Rattle.bitstream_format.proofs.blocks.write_blocks.Goals as goal

pub loop-block-init : goal.loop-block-init
loop-block-init g c = let K = g.W.BitWrite.sink in
    written-begin K (block_writes K.order) c.args.blocks.now _

pub returns-in_err-write : goal.returns-in_err-write
returns-in_err-write g c =
    let K = g.W.BitWrite.sink in
    blocks-unwritten K c.args.blocks.now _ _ _ _ _ _ _ _ c.loop-block-test.true c.block-item.is c.loop-block.invariant
    c.in_err-write.ensures c.from_residual.ensures.1

pub loop-block-preserved : goal.loop-block-preserved
loop-block-preserved g c =
    let K = g.W.BitWrite.sink in
    written-more K (block_writes K.order) c.args.blocks.now _ _ _ _ _ _ c.loop-block-test.true c.block-item.is
    c.loop-block.invariant c.in_ok-write.ensures

pub returns : goal.returns
returns g c =
    let K = g.W.BitWrite.sink in
    blocks-written K c.args.blocks.now _ _ _ _ _ (omega (arith, c.loop-block-test.false, c.loop-block.auto.block-index-end))
    c.loop-block.invariant c.write_unsigned_var.ensures.writes
