use Rattle.std.proofs.Common.{◌≡◌, ◌-◌, ap, ◌∙◌, arith}
use Rattle.bitstream_value.proofs.integer.non_zero.write_non_zero_vbr.Goals as goal

pub returns : goal.returns
returns g c =
    let u = g.N.Base.UnsignedInteger in
    let law = g.met.N.Base.UnsignedInteger in
    let is = law.sub_value_law _ _ _ c.sub.ensures in
    let one = ap u.value c.ONE.ensures ∙ law.ONE_value_law in
    let number = c.base.ensures.value in
    let less : u.value c.sub.result ≡ g.N.NonZeroInteger.number c.args.value - 1 = omega (arith, is, one, number) in
    record { writes = rw less at c.write_number_vbr.ensures.writes }
