use Rattle.std.proofs.Common.{arith, refl, sym, ap, ◌∙◌}
use Rattle.bitstream_order.proofs.Moving.SignLemmas.{negative_residue, other_residue, negative_below, sign_put}
use Rattle.bitstream_order.proofs.kernels.sign.complement.Goals as goal

pub returns-then-is_negative : goal.returns-then-is_negative
returns-then-is_negative g c =
    let u = g.S.Unsigned.UnsignedInteger in
    let n = c.args.bits in
    let x = g.S.Numeric.integer c.args.value in
    let m = u.value c.as_negative.result in
    let one = ap u.value c.ONE.ensures ∙ g.met.S.Unsigned.UnsignedInteger.ONE_value_law in
    let same = g.met.S.SignedInteger.same_size_law in
    let within = c.requires.within in
    let below = c.if-is_negative.ensures.0 refl in
    let small = negative_below n x m below c.as_negative.ensures in
    sign_put g.S.Unsigned.Numeric.BITS_SIZE n m _ _ _ c.requires.some (omega (arith, same, within)) one small
    c.shl_default.ensures (g.met.S.Unsigned.UnsignedInteger.or_law _ _ _ c.bitor.ensures)
    ∙ sym (negative_residue n x m c.requires.some c.requires.fits below c.as_negative.ensures)

pub returns-else-is_negative : goal.returns-else-is_negative
returns-else-is_negative g c = sym (other_residue c.args.bits (g.S.Numeric.integer c.args.value) _ c.requires.some
    c.requires.fits c.as_non_negative.ensures)
