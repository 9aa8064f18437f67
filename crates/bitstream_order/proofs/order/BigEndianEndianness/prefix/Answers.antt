use Rattle.std.proofs.Common.{ap, ◌∙◌, ◌-◌, ◌/◌, ◌^◌}
use Rattle.bitstream_order.proofs.order.BigEndianEndianness.prefix.Goals as goal

pub returns : goal.returns
returns g c = g.met.U.UnsignedInteger.shr_law _ _ _ c.shr.ensures
    ∙ ap (λ w. g.U.UnsignedInteger.value c.args.value / 2 ^ (w - c.args.k)) c.BITS_SIZE.ensures
