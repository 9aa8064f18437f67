use Rattle.bitstream_order.proofs.Moving.PieceLemmas.{moved_low}
use Rattle.bitstream_order.proofs.order.LittleEndianEndianness.to_front.Goals as goal

pub returns : goal.returns
returns g c = moved_low g.U.Numeric.BITS_SIZE c.args._n (g.U.UnsignedInteger.value c.args.value) c.requires
