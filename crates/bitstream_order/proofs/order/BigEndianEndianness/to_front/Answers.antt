use Rattle.std.proofs.Common.{ap, ◌∙◌, ◌*◌, ◌-◌, ◌%◌, ◌^◌}
use Rattle.bitstream_order.proofs.Moving.PieceLemmas.{moved_high}
use Rattle.bitstream_order.proofs.order.BigEndianEndianness.to_front.Goals as goal

pub returns : goal.returns
returns g c =
    let size = g.U.Numeric.BITS_SIZE in
    moved_high size c.args.n (g.U.UnsignedInteger.value c.args.value) _ c.requires
    (c.shl_default.ensures ∙ ap (λ w. g.U.UnsignedInteger.value c.args.value * 2 ^ (w - c.args.n) % 2 ^ size)
    c.BITS_SIZE.ensures)
