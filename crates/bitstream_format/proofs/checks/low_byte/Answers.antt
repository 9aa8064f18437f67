use Rattle.bitstream_format.specs.Checks.{low_step}
use Rattle.bitstream_format.proofs.ChecksLemmas.{steps-more, steps-none}
use Rattle.bitstream_format.proofs.checks.low_byte.Goals as goal

pub loop-init : goal.loop-init
loop-init c = steps-none (low_step c.args.polynomial) c.args.crc

pub loop-preserved : goal.loop-preserved
loop-preserved c =
    steps-more (low_step c.args.polynomial) c.args.crc c.loop.crc _ c.loop.counter c.loop.invariant c.low_step-crc.ensures
