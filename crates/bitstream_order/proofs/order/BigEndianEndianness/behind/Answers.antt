use Rattle.std.proofs.Common.{arith, ap, ◌∙◌, ◌*◌, ◌-◌, ◌%◌, ◌^◌, ◌<◌}
use Rattle.bitstream_order.proofs.Moving.PieceLemmas.{behind_high}
use Rattle.bitstream_order.proofs.order.BigEndianEndianness.behind.Goals as goal

pub returns : goal.returns
returns g c =
    let laws = g.met.U.UnsignedInteger in
    let size = g.U.Numeric.BITS_SIZE in
    let whole = g.met.U.Numeric.size_law in
    let least = g.met.U.Numeric.least_law in
    let few = c.requires.few in
    let byte : c.args.queue < 256 = c.ranges.queue.fits in
    behind_high size c.args.queued c.args.queue (g.U.UnsignedInteger.value c.args.value) _ _ _ _ c.requires.small
    (omega arith) (laws.known_law _ c.known.ensures) (laws.byte_law _ _ c.from_u8.ensures byte)
    (c.shl_default.ensures ∙ ap (λ w. g.U.UnsignedInteger.value c.from_u8.result * 2 ^ (w - c.args.queued) % 2 ^ size)
    c.BITS_SIZE.ensures)
    (laws.shr_law _ _ _ c.shr.ensures) (laws.or_law _ _ _ c.bitor.ensures)
