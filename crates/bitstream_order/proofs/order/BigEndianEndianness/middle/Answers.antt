use Rattle.std.proofs.Common.{arith, ◌∙◌}
use Rattle.bitstream_order.proofs.WindowLemmas.{middle_high, two_shifts}
use Rattle.bitstream_order.proofs.order.BigEndianEndianness.middle.Goals as goal

pub returns : goal.returns
returns c =
    two_shifts _ c.args.k (omega (arith, c.requires))
    ∙ middle_high c.args.value c.args.at c.args.k 64 (omega (arith, c.requires))
