use Rattle.std.proofs.Common.{arith, ◌≢◌, true, false, sym, ap, ◌∙◌}
use Rattle.bitstream_value.proofs.NonZeroLemmas.{non_zero_vbr-stops, non_zero_vbr-was_done, non_zero_vbr-overflows}
use Rattle.bitstream_value.proofs.integer.non_zero.read_non_zero_vbr.Goals as goal

pub returns-in_err-base : goal.returns-in_err-base
returns-in_err-base g c = record {
  reads = non_zero_vbr-stops g.N.NonZeroInteger.after _ _ _ c.from_residual.ensures.1
      c.in_err-base.ensures.reads;
}

pub returns-then-eq : goal.returns-then-eq
returns-then-eq g c =
    let law = g.met.N.Base.UnsignedInteger in
    let all = ap g.N.Base.UnsignedInteger.value c.ALL.ensures ∙ law.ALL_law in
    record {
      reads = non_zero_vbr-overflows g.N.NonZeroInteger.after _ _ _ _ ((law.eq_value_law _ _).0 (sym c.eq.ensures
          ∙ c.if-eq.true) ∙ all) c.in_ok-base.ensures.reads;
    }

apart : true ≢ false
apart e = cc

pub next-requires : goal.next-requires
next-requires g c =
    let u = g.N.Base.UnsignedInteger in
    let law = g.met.N.Base.UnsignedInteger in
    let all = ap u.value c.ALL.ensures ∙ law.ALL_law in
    let other : u.value c.in_ok-base.base ≢ u.value c.ALL.result =
    λ e. apart (sym ((law.eq_value_law _ _).1 e) ∙ sym c.eq.ensures ∙ c.if-eq.false) in
    let below = law.known_law _ c.known.ensures in
    omega (arith, all, other, below)

pub returns : goal.returns
returns g c =
    let u = g.N.Base.UnsignedInteger in
    let law = g.met.N.Base.UnsignedInteger in
    let all = ap u.value c.ALL.ensures ∙ law.ALL_law in
    let other : u.value c.in_ok-base.base ≢ u.value c.ALL.result =
    λ e. apart (sym ((law.eq_value_law _ _).1 e) ∙ sym c.eq.ensures ∙ c.if-eq.false) in
    let below = law.known_law _ c.known.ensures in
    record {
      reads = non_zero_vbr-was_done g.N.NonZeroInteger.after _ _ _ _ _ (omega (arith, all, other, below))
          (g.met.N.NonZeroInteger.after_law _ _ c.next.ensures) c.in_ok-base.ensures.reads;
    }
