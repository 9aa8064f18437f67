use Rattle.std.proofs.Common.{inl, inr, refl}
use Rattle.flac_codec.proofs.heading.block_size_code.Goals as goal

pub returns-then-code-size : goal.returns-then-code-size
returns-then-code-size c = inl (c.loop-code-test.true, c.if-code-size.true)

pub returns-then-size-le256 : goal.returns-then-size-le256
returns-then-size-le256 c = inr (inl (refl, c.if-size-le256.true))

pub returns-else-size-le256 : goal.returns-else-size-le256
returns-else-size-le256 c = inr (inr refl)
