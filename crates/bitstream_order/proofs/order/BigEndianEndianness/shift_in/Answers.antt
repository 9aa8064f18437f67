use Rattle.std.proofs.Common.{arith, ap, ◌∙◌, ◌*◌, ◌-◌, ◌%◌, ◌^◌}
use Rattle.bitstream_order.proofs.Moving.PieceLemmas.{carry_high}
use Rattle.bitstream_order.proofs.order.BigEndianEndianness.shift_in.Goals as goal

pub returns : goal.returns
returns g c =
    let laws = g.met.U.UnsignedInteger in
    let size = g.U.Numeric.BITS_SIZE in
    let whole = g.met.U.Numeric.size_law in
    let least = g.met.U.Numeric.least_law in
    let few = c.requires.few in
    let before = g.U.UnsignedInteger.value c.args.before in
    carry_high size c.args.k before (g.U.UnsignedInteger.value c.args.value) _ _ _ (omega arith)
    (laws.known_law _ c.known.ensures)
    (laws.shl_law _ _ _ c.shl.ensures ∙ ap (λ w. before * 2 ^ (w - c.args.k) % 2 ^ size) c.BITS_SIZE.ensures)
    (laws.shr_law _ _ _ c.shr.ensures) (laws.or_law _ _ _ c.bitor.ensures)
