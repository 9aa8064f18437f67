use Rattle.std.proofs.Common.{◌∙◌}
use Rattle.bitstream_number.proofs.Masks.{or-sum}
use Rattle.bitstream_number.proofs.laws.ors_are_sums.Goals as goal

pub returns : goal.returns
returns g c = g.met.U.UnsignedInteger.or_law _ _ _ c.bitor.ensures ∙ or-sum _ _ c.requires.0 c.requires.1 c.requires.2
