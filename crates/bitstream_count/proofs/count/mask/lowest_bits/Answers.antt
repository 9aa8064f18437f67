use Rattle.std.proofs.Common.{ap, ◌∙◌, ◌≡◌, ◌-◌, ◌/◌, ◌^◌}
use Rattle.bitstream_number.proofs.Masks.{mask-is}
use Rattle.bitstream_count.proofs.count.mask.lowest_bits.Goals as goal

pub returns : goal.returns
returns g c =
    let u = g.U.UnsignedInteger in
    let size = g.U.Numeric.BITS_SIZE in
    let all = ap u.value c.ALL.ensures ∙ g.met.U.UnsignedInteger.ALL_law in
    let shifted : u.value c.shr_default.result ≡ u.value c.ALL.result / 2 ^ (size - c.args.bits) = c.shr_default.ensures
    ∙ ap (λ w. u.value c.ALL.result / 2 ^ (w - c.args.bits)) c.BITS_SIZE.ensures in
    mask-is size c.args.bits _ _ c.requires all shifted
