use Rattle.bitstream_format.specs.Checks.{high_step}
use Rattle.bitstream_format.proofs.ChecksLemmas.{steps-more, steps-none}
use Rattle.bitstream_format.proofs.checks.high_byte.Goals as goal

pub loop-init : goal.loop-init
loop-init c = steps-none (high_step 0x80000000 c.args.polynomial) c.args.crc

pub loop-preserved : goal.loop-preserved
loop-preserved c =
    steps-more (high_step 0x80000000 c.args.polynomial) c.args.crc c.loop.crc _ c.loop.counter c.loop.invariant
    c.high_step-crc.ensures
