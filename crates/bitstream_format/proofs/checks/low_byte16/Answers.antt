use Rattle.bitstream_format.specs.Checks.{low_step}
use Rattle.bitstream_format.proofs.ChecksLemmas.{steps-more, steps-none}
use Rattle.bitstream_format.proofs.checks.low_byte16.Goals as goal

pub loop-init : goal.loop-init
loop-init c = steps-none (low_step 0x8408) c.args.crc

pub loop-preserved : goal.loop-preserved
loop-preserved c =
    steps-more (low_step 0x8408) c.args.crc c.loop.crc _ c.loop.counter c.loop.invariant c.low_step16-crc.ensures
