use Rattle.std.proofs.Common.{◌∙◌}
use Rattle.bitstream_number.proofs.Shifts.{shl_past, shr_past}
use Rattle.bitstream_number.proofs.laws.shifts_past_the_size_are_zero.Goals as goal

pub returns-clause-left : goal.returns-clause-left
returns-clause-left g c = c.shl_default.ensures ∙ shl_past _ g.U.Numeric.BITS_SIZE c.args.by c.requires

pub returns-clause-right : goal.returns-clause-right
returns-clause-right g c = c.shr_default.ensures ∙ shr_past _ g.U.Numeric.BITS_SIZE c.args.by
    (g.met.U.UnsignedInteger.known_law _ c.known.ensures) c.requires
