use Rattle.std.proofs.Common.{arith, ◌<◌}
use Rattle.bitstream_order.proofs.Moving.PieceLemmas.{behind_low}
use Rattle.bitstream_order.proofs.order.LittleEndianEndianness.behind.Goals as goal

pub returns : goal.returns
returns g c =
    let laws = g.met.U.UnsignedInteger in
    let size = g.U.Numeric.BITS_SIZE in
    let whole = g.met.U.Numeric.size_law in
    let least = g.met.U.Numeric.least_law in
    let few = c.requires.few in
    let byte : c.args.queue < 256 = c.ranges.queue.fits in
    behind_low size c.args.queued c.args.queue (g.U.UnsignedInteger.value c.args.value) _ _ _ c.requires.small
    (omega arith) (laws.byte_law _ _ c.from_u8.ensures byte)
    (laws.shl_law _ _ _ c.shl.ensures) (laws.or_law _ _ _ c.bitor.ensures)
