use Rattle.std.proofs.Common.{arith, ◌≡◌, ◌-◌, ◌/◌, ◌^◌, sym, ap, ◌∙◌, pow_pos}
use Rattle.bitstream_order.proofs.Moving.SignLemmas.{half_is}
use Rattle.bitstream_stream.proofs.Reading.GroupLemmas.{apart}
use Rattle.bitstream_stream.proofs.Writing.VbrWrites.{large_of, small_of, group_is, group_first, group_last}
use Rattle.bitstream_stream.proofs.vbr.split_group.Given.{Over}
use Rattle.bitstream_stream.proofs.vbr.split_group.Goals.{After-ONE-2}
use Rattle.bitstream_stream.proofs.vbr.split_group.Goals as goal

pub returns-then-eq : goal.returns-then-eq
returns-then-eq g c =
    let law = g.met.U.UnsignedInteger in
    let zero = ap g.U.UnsignedInteger.value c.ZERO.ensures ∙ law.ZERO_value_law in
    let none = sym (law.shr_law _ _ _ c.shr-rest.ensures) ∙ (law.eq_value_law _ _).0 (sym c.eq.ensures ∙ c.if-eq.true)
    ∙ zero in
    record {
      first = tt;
      last = λ _. group_last g.F.Width.BITS _ c.requires.some
          (ap (λ k. k - 1) c.BITS-payload.ensures) _ (small_of _ _ none);
    }

-- the digit that says that another group follows, and what is taken off it
digit : (g : Over) (c : After-ONE-2 g) → (g.U.UnsignedInteger.value c.shl-more.result ≡ 2 ^ (c.BITS-payload.result - 1))
    × (g.U.UnsignedInteger.value c.ONE-2.result ≡ 1)
digit g c =
    let u = g.U.UnsignedInteger in
    let law = g.met.U.UnsignedInteger in
    let one = ap u.value c.ONE.ensures ∙ law.ONE_value_law in (
      half_is _ (c.BITS-payload.result - 1) g.U.Numeric.BITS_SIZE _ one (omega (
        arith,
        c.BITS-payload.ensures,
        c.requires.within,
      )) (law.shl_law _ _ _ c.shl-more.ensures),
      ap u.value c.ONE-2.ensures ∙ law.ONE_value_law,
    )

pub sub-requires : goal.sub-requires
sub-requires g c =
    let made = digit g c in
    g.met.U.UnsignedInteger.can_sub_value_law _ _ (omega (arith, made.0, made.1, pow_pos (c.BITS-payload.result - 1)))

pub returns : goal.returns
returns g c =
    let u = g.U.UnsignedInteger in
    let law = g.met.U.UnsignedInteger in
    let m = c.BITS-payload.result - 1 in
    let made = digit g (goal.at.returns g c).After-ONE-2 in
    let mask : u.value c.sub.result ≡ 2 ^ m - 1 = law.sub_value_law _ _ _ c.sub.ensures
    ∙ omega (arith, made.0, made.1) in
    let group = group_is m _ _ _ _ _ made.0 mask (law.and_law _ _ _ c.bitand-digits.ensures)
    (law.or_law _ _ _ c.bitor.ensures) in
    let rest : u.value c.shr-rest.result ≡ u.value c.args.value / 2 ^ m = law.shr_law _ _ _ c.shr-rest.ensures in
    let zero = ap u.value c.ZERO.ensures ∙ law.ZERO_value_law in
    let large = large_of m _ (λ e. apart (sym ((law.eq_value_law _ _).1 (rest ∙ e ∙ sym zero)) ∙ sym c.eq.ensures
    ∙ c.if-eq.false)) in
    record {
      first = group_first g.F.Width.BITS m c.requires.some (ap (λ k. k - 1) c.BITS-payload.ensures) _ _ _ large
          group rest;
      last = λ none. cc;
    }
