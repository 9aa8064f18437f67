use Rattle.bitstream_order.proofs.Moving.PieceLemmas.{behind_byte_low}
use Rattle.bitstream_order.proofs.order.LittleEndianEndianness.byte_behind.Goals as goal

pub returns : goal.returns
returns g c =
    behind_byte_low g.U.Numeric.BITS_SIZE (g.U.UnsignedInteger.value c.args.value) c.args.n _ _ c.shr_default.ensures
    c.low_byte.ensures
