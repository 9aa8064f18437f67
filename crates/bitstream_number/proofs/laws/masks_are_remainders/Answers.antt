use Rattle.std.proofs.Common.{ap, ◌∙◌, ◌≡◌, ◌-◌, ◌/◌, ◌^◌}
use Rattle.bitstream_number.proofs.Masks.{mask-is, masked-is}
use Rattle.bitstream_number.proofs.laws.masks_are_remainders.Goals as goal

pub returns : goal.returns
returns g c =
    let u = g.U.UnsignedInteger in
    let law = g.met.U.UnsignedInteger in
    let size = g.U.Numeric.BITS_SIZE in
    let n = c.args.bits in
    let all = ap u.value c.ALL.ensures ∙ law.ALL_law in
    let shifted : u.value c.shr.result ≡ u.value c.ALL.result / 2 ^ (size - n) = law.shr_law _ _ _ c.shr.ensures
    ∙ ap (λ w. u.value c.ALL.result / 2 ^ (w - n)) c.BITS_SIZE.ensures in
    masked-is _ n _ _ (mask-is size n _ _ c.requires.within all shifted) (law.and_law _ _ _ c.bitand.ensures)
