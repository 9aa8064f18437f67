use Rattle.std.proofs.Common.{arith}
use Rattle.bitstream_order.proofs.WindowLemmas.{masked}
use Rattle.bitstream_order.proofs.order.LittleEndianEndianness.middle.Goals as goal

pub returns : goal.returns
returns c = masked _ c.args.k (omega (arith, c.requires))
