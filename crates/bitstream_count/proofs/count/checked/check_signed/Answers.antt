use Rattle.std.proofs.Common.{refl, true, false, ap, sym, ◌∙◌, ◌≡◌, ◌≤◌, ◌⊎◌, inl, inr, arith}
use Rattle.std.specs.Prelude.{pos, negsuc, ◌≢◌}
use Rattle.bitstream_count.proofs.Checks.{FitsSignedBits-int_shr, ExceedsSignedBits-int_shr}
use Rattle.bitstream_count.proofs.count.checked.check_signed.Goals as goal
use Rattle.bitstream_count.proofs.count.checked.check_signed.Goals.{then-eq, else-eq}

pub returns-then-eq-2 : goal.returns-then-eq-2
returns-then-eq-2 g c =
    let integer = g.S.Numeric.integer in
    let same = g.met.S.Numeric.eq_law in
    let zero = ap integer c.ZERO.ensures ∙ g.met.S.Numeric.ZERO_law in
    let size = c.BITS_SIZE.ensures in
    let wide = c.if-bits-BITS_SIZE.false in
    let within : c.args.bits ≤ g.S.Numeric.BITS_SIZE = omega arith in
    let sign : (integer c.shr-above.result ≡ pos 0) ⊎ (integer c.shr-above.result ≡ negsuc 0) = elim c.if-eq.branch [
      | then-eq w ↦ inl ((same _ _).0 (sym c.eq.ensures ∙ w.if-eq.true) ∙ zero)
      | else-eq w ↦ inr ((same _ _).0 (sym w.eq-else-eq.ensures ∙ sym w.value-is ∙ c.if-eq-2.true)
          ∙ w.negative_one.ensures)
    ] in
    ((within, FitsSignedBits-int_shr _ _ _ (g.met.S.SignedInteger.shr_law _ _ _ c.shr-above.ensures) sign), refl)

apart : true ≢ false
apart e = cc

pub returns-else-eq-2 : goal.returns-else-eq-2
returns-else-eq-2 g c =
    let integer = g.S.Numeric.integer in
    let same = g.met.S.Numeric.eq_law in
    let zero = ap integer c.ZERO.ensures ∙ g.met.S.Numeric.ZERO_law in
    let size = c.BITS_SIZE.ensures in
    let wide = c.if-bits-BITS_SIZE.false in
    let within : c.args.bits ≤ g.S.Numeric.BITS_SIZE = omega arith in
    let shifted = g.met.S.SignedInteger.shr_law _ _ _ c.shr-above.ensures in
    elim c.if-eq.branch [
      | then-eq w ↦ absurd (apart (sym w.if-eq.true ∙ sym w.value-is ∙ c.if-eq-2.false))
      | else-eq w ↦
          let some : integer c.shr-above.result ≢ pos 0 =
          λ e. apart (sym ((same _ _).1 (e ∙ sym zero)) ∙ sym c.eq.ensures ∙ w.if-eq.false) in
          let other : integer c.shr-above.result ≢ negsuc 0 =
          λ e. apart (sym ((same _ _).1 (e ∙ sym w.negative_one.ensures)) ∙ sym w.eq-else-eq.ensures
          ∙ sym w.value-is ∙ c.if-eq-2.false) in
          (within, ExceedsSignedBits-int_shr _ _ _ shifted some other)
    ]
