use Rattle.std.proofs.Common.{arith, ◌≢◌, ◌-◌, ◌*◌, ◌/◌, ◌<◌, ◌^◌, sym, ap, ◌∙◌}
use Rattle.std.proofs.Math.Nat.{div-lt_self}
use Rattle.std.proofs.lemmas.Nat.{pow_below}
use Rattle.bitstream_stream.proofs.Writing.VbrWrites.{counted-first, counted-more, counted-few, counted-all, counted-last, some_of, is_other, is_same}
use Rattle.bitstream_stream.proofs.vbr.vbr_bits.Given.{Over}
use Rattle.bitstream_stream.proofs.vbr.vbr_bits.Goals.{After-BITS, After-BITS-bits-then-ne}
use Rattle.bitstream_stream.proofs.vbr.vbr_bits.Goals as goal

pub loop-bits-init : goal.loop-bits-init
loop-bits-init g c = counted-first g.F.Width.BITS _ c.requires.some (ap (λ k. k - 1) c.BITS-payload.ensures) _ _
    c.BITS-bits.ensures

-- in the loop more than two groups are left
left_over : (g : Over) (c : After-BITS g) → g.U.UnsignedInteger.value c.loop-bits.rest / 2 ^
    (2 * (c.BITS-payload.result - 1)) ≢ 0
left_over g c =
    let law = g.met.U.UnsignedInteger in
    let zero = ap g.U.UnsignedInteger.value c.ZERO.ensures ∙ law.ZERO_value_law in
    λ none. is_other c.loop-bits-test.ensures ((law.eq_value_law _ _).1 (c.shr_default.ensures ∙ none ∙ sym zero))

pub overflow_add-bits : goal.overflow_add-bits
overflow_add-bits g c =
    let some = some_of _ _ (left_over g c) in
    let few = counted-few g.F.Width.BITS _ c.requires.some (ap (λ k. k - 1) c.BITS-payload.ensures) _
    g.U.Numeric.BITS_SIZE _ _ (g.met.U.UnsignedInteger.known_law _ c.known.ensures) some c.loop-bits.invariant in
    omega (arith, few, g.met.U.Numeric.most_law, c.requires.within, c.BITS.ensures)

pub loop-bits-smaller : goal.loop-bits-smaller
loop-bits-smaller g c =
    let some = some_of _ _ (left_over g (goal.at.loop-bits-smaller g c).After-BITS) in
    let two : 0 < 2 * (c.BITS-payload.result - 1) = omega (arith, c.requires.some, c.BITS-payload.ensures) in
    let less = div-lt_self {n = g.U.UnsignedInteger.value c.loop-bits.rest} (omega (arith, some))
    (pow_below 0 (2 * (c.BITS-payload.result - 1)) two) in
    omega (arith, less, c.shr_default-rest.ensures)

pub loop-bits-preserved : goal.loop-bits-preserved
loop-bits-preserved g c =
    let some = left_over g (goal.at.loop-bits-preserved g c).After-BITS in
    let two = ap (λ k. 2 * k) c.BITS.ensures in
    counted-more g.F.Width.BITS _ c.requires.some (ap (λ k. k - 1) c.BITS-payload.ensures) _ _ _ _ _ two
    c.shr_default-rest.ensures (λ none. some (sym c.shr_default-rest.ensures ∙ none)) c.loop-bits.invariant

-- after the loop more than one group is left
second_over : (g : Over) (c : After-BITS-bits-then-ne g)
    → g.U.UnsignedInteger.value c.loop-bits.rest / 2 ^ (c.BITS-payload.result - 1) ≢ 0
second_over g c =
    let law = g.met.U.UnsignedInteger in
    let zero = ap g.U.UnsignedInteger.value c.ZERO-2.ensures ∙ law.ZERO_value_law in
    λ none. is_other c.if-ne.ensures ((law.eq_value_law _ _).1 (law.shr_law _ _ _ c.shr.ensures ∙ none ∙ sym zero))

pub overflow_add-bits-then-ne : goal.overflow_add-bits-then-ne
overflow_add-bits-then-ne g c =
    let some = some_of _ _ (second_over g c) in
    let few = counted-few g.F.Width.BITS _ c.requires.some (ap (λ k. k - 1) c.BITS-payload.ensures) _
    g.U.Numeric.BITS_SIZE _ _ (g.met.U.UnsignedInteger.known_law _ c.known.ensures) some c.loop-bits.invariant in
    omega (arith, few, g.met.U.Numeric.most_law, c.requires.within, c.BITS-bits-then-ne.ensures)

pub returns-then-ne : goal.returns-then-ne
returns-then-ne g c =
    let law = g.met.U.UnsignedInteger in
    let zero = ap g.U.UnsignedInteger.value c.ZERO.ensures ∙ law.ZERO_value_law in
    let none = sym c.shr_default.ensures ∙ (law.eq_value_law _ _).0 (is_same c.loop-bits-test.ensures) ∙ zero in
    counted-last g.F.Width.BITS _ c.requires.some (ap (λ k. k - 1) c.BITS-payload.ensures) _ _ _ _
    c.BITS-bits-then-ne.ensures (second_over g c) none c.loop-bits.invariant

pub returns-else-ne : goal.returns-else-ne
returns-else-ne g c =
    let law = g.met.U.UnsignedInteger in
    let zero = ap g.U.UnsignedInteger.value c.ZERO-2.ensures ∙ law.ZERO_value_law in
    let none = sym (law.shr_law _ _ _ c.shr.ensures) ∙ (law.eq_value_law _ _).0 (is_same c.if-ne.ensures) ∙ zero in
    counted-all g.F.Width.BITS _ c.requires.some (ap (λ k. k - 1) c.BITS-payload.ensures) _ _ _ none
    c.loop-bits.invariant
