use Rattle.std.proofs.Common.{arith, inl, inr, refl}
use Rattle.flac_codec.proofs.heading.sample_rate_code.Goals as goal

pub returns-then-code-rate : goal.returns-then-code-rate
returns-then-code-rate c = inl (c.loop-code-test.true, c.if-code-rate.true)

pub returns-then-rate-lt256000 : goal.returns-then-rate-lt256000
returns-then-rate-lt256000 c = inr (inl (refl, c.if-rate-eq0.true, c.if-rate-lt256000.true))

pub returns-then-rate-lt65536 : goal.returns-then-rate-lt65536
returns-then-rate-lt65536 c = inr (inr (inl (refl, c.if-rate-lt65536.true)))

pub returns-else-rate-lt65536 : goal.returns-else-rate-lt65536
returns-else-rate-lt65536 c = elim c.requires [
  | inl less ↦ absurd (omega (arith, less, c.if-rate-lt65536.false))
  | inr ten ↦ inr (inr (inr (refl, ten.0, ten.1)))
]
