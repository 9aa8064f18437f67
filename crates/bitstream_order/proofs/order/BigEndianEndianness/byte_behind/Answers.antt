use Rattle.std.proofs.Common.{arith, ap, ◌∙◌, ◌-◌, ◌/◌, ◌^◌}
use Rattle.bitstream_order.proofs.Moving.PieceLemmas.{behind_byte_high}
use Rattle.bitstream_order.proofs.order.BigEndianEndianness.byte_behind.Goals as goal

pub returns : goal.returns
returns g c =
    let size = g.U.Numeric.BITS_SIZE in
    let whole = g.met.U.Numeric.size_law in
    let least = g.met.U.Numeric.least_law in
    behind_byte_high size (g.U.UnsignedInteger.value c.args.value) c.args.n _ _ _ (omega arith) c.shl_default.ensures
    (g.met.U.UnsignedInteger.shr_law _ _ _ c.shr.ensures
    ∙ ap (λ w. g.U.UnsignedInteger.value c.shl_default.result / 2 ^ (w - 8)) c.BITS_SIZE.ensures) c.low_byte.ensures
