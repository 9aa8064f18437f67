use Rattle.std.specs.Prelude.{ℤ, pos, negsuc, ◌-ℤ◌}
use Rattle.std.proofs.Common.{ap, ap₂, sym, subst, ◌∙◌, ◌≡◌, ◌-◌}
use Rattle.std.proofs.lemmas.Nat.{pow_pos}
use Rattle.bitstream_count.proofs.count.checked.negative_one.Goals as goal

pub returns : goal.returns
returns g c =
    let num = g.met.S.Numeric in
    let integer = g.S.Numeric.integer in
    let zero : integer c.ZERO.result ≡ pos 0 = ap integer c.ZERO.ensures ∙ num.ZERO_law in
    let one : integer c.ONE.result ≡ pos 1 = ap integer c.ONE.ensures ∙ num.ONE_law in
    let less : (integer c.ZERO.result -ℤ integer c.ONE.result) ≡ negsuc 0 = ap₂ (λ (x y : ℤ). x -ℤ y) zero one in
    let fits = (g.met.S.SignedInteger.fits_law (negsuc 0)).1 (pow_pos (g.S.Numeric.BITS_SIZE - 1)) in
    num.sub_law _ _ _ c.sub.ensures (subst g.S.Numeric.fits (sym less) fits) ∙ less
