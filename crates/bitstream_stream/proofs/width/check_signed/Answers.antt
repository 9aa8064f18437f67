use Rattle.std.proofs.Common.{◌≡◌, ℕ, ◌<◌, ◌∙◌, subst, sym}
use Rattle.bitstream_count.specs.Checks.{HoldsSigned, RefusesSigned}
use Rattle.bitstream_stream.proofs.Writing.WriteLemmas.{signed-fail, signed-none, none_of}
use Rattle.bitstream_stream.proofs.width.check_signed.Goals as goal

pub returns-in-Ok-clause-some : goal.returns-in-Ok-clause-some
returns-in-Ok-clause-some g c = subst (λ (n : ℕ). 0 < n) c.unknown.ensures c.in-Some.ensures.0

pub returns-in-Ok-clause-holds : goal.returns-in-Ok-clause-holds
returns-in-Ok-clause-holds g c =
    subst (λ (n : ℕ). HoldsSigned g.S.Numeric.BITS_SIZE n (g.S.Numeric.integer c.args.value))
    (c.in-Some.ensures.1 ∙ c.unknown.ensures) c.in-Ok.ensures.0

pub returns-in-Err-clause-refusal : goal.returns-in-Err-clause-refusal
returns-in-Err-clause-refusal g c = λ o len.
    let h = c.in-Some.ensures in
    let is : c.in-Some.count ≡ c.args.bits = h.1 ∙ c.unknown.ensures in
    let some : 0 < c.args.bits = subst (λ (n : ℕ). 0 < n) c.unknown.ensures h.0 in
    signed-fail o _ _ _ len _ some (subst (λ (n : ℕ). RefusesSigned g.S.Numeric.BITS_SIZE n
    (g.S.Numeric.integer c.args.value) c.in-Err.refused) is c.in-Err.ensures)

pub returns-in-None-clause-refusal : goal.returns-in-None-clause-refusal
returns-in-None-clause-refusal g c = λ o len. signed-none o _ _ _ len (sym c.unknown.ensures
    ∙ none_of _ c.in-None.ensures)
