use Rattle.std.proofs.Common.{ap, sym, ◌∙◌, ◌≡◌, ◌/◌, ◌%◌, ◌^◌, mod-lt}
use Rattle.std.proofs.lemmas.Nat.{pow_pos, shr_split}
use Rattle.bitstream_number.proofs.Masks.{masked-is}
use Rattle.bitstream_count.proofs.count.mask.LsbMask.split.Goals as goal

pub of-requires : goal.of-requires
of-requires g c =
    let u = g.U.UnsignedInteger in
    let v = u.value c.args.v in
    let n = c.self.inside.count in
    let low : u.value c.bitand-low.result ≡ v % 2 ^ n =
    masked-is v c.bits-bits.result _ _ c.lowest_bits.ensures
    (g.met.U.UnsignedInteger.and_law _ _ _ c.bitand-low.ensures) ∙ ap (λ k. v % 2 ^ k) c.bits-bits.ensures.value in
    (c.self.invariant, rw low (mod-lt v (pow_pos n)))

pub returns-clause-split : goal.returns-clause-split
returns-clause-split g c =
    let u = g.U.UnsignedInteger in
    let v = u.value c.args.v in
    let n = c.args.self.now in
    let size = c.bits-bits.ensures.value ∙ c.self.view_is in
    let high : u.value c.shr_default-high.result ≡ v / 2 ^ n = c.shr_default-high.ensures ∙ ap (λ k. v / 2 ^ k) size in
    let low : u.value c.of.result.1 ≡ v % 2 ^ n = ap u.value c.of.ensures.value
    ∙ masked-is v c.bits-bits.result _ _ c.lowest_bits.ensures
    (g.met.U.UnsignedInteger.and_law _ _ _ c.bitand-low.ensures) ∙ ap (λ k. v % 2 ^ k) size in
    rw (high, low) (sym (shr_split v n))

pub returns-clause-low : goal.returns-clause-low
returns-clause-low g c =
    let u = g.U.UnsignedInteger in
    let v = u.value c.args.v in
    let size = c.bits-bits.ensures.value ∙ c.self.view_is in
    ap u.value c.of.ensures.value ∙ masked-is v c.bits-bits.result _ _ c.lowest_bits.ensures
    (g.met.U.UnsignedInteger.and_law _ _ _ c.bitand-low.ensures) ∙ ap (λ k. v % 2 ^ k) size
