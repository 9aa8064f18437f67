use Rattle.std.proofs.Common.{refl, arith, ◌≤◌}
use Rattle.bitstream_stream.proofs.ZigzagLemmas.{above_least, negative_place, other_place}
use Rattle.bitstream_stream.proofs.zigzag.zigzag.Given.{Over}
use Rattle.bitstream_stream.proofs.zigzag.zigzag.Goals as goal

-- a type has bits
some : (g : Over) → 1 ≤ g.S.Numeric.BITS_SIZE
some g =
    let bytes = g.met.S.Numeric.size_law in
    let least = g.met.S.Numeric.least_law in
    omega (arith, bytes, least)

pub as_negative-requires-clause-some : goal.as_negative-requires-clause-some
as_negative-requires-clause-some g c = rw c.BITS_SIZE.ensures (some g)

pub as_negative-requires-clause-within : goal.as_negative-requires-clause-within
as_negative-requires-clause-within g c = omega (arith, c.BITS_SIZE.ensures)

pub as_negative-requires-clause-negative : goal.as_negative-requires-clause-negative
as_negative-requires-clause-negative g c = c.if-is_negative.ensures.0 refl

pub as_negative-requires-clause-above : goal.as_negative-requires-clause-above
as_negative-requires-clause-above g c =
    rw c.BITS_SIZE.ensures (above_least _ _ ((g.met.S.SignedInteger.fits_law _).0 c.known.ensures)
    (c.if-is_negative.ensures.0 refl))

pub returns-then-is_negative : goal.returns-then-is_negative
returns-then-is_negative g c =
    let law = g.met.S.Unsigned.UnsignedInteger in
    let size = g.S.Numeric.BITS_SIZE in
    negative_place size _ _ _ _ _ g.met.S.SignedInteger.same_size_law (some g)
    ((g.met.S.SignedInteger.fits_law _).0 c.known.ensures) (c.if-is_negative.ensures.0 refl)
    (rw c.BITS_SIZE.ensures at c.as_negative.ensures) (law.shl_law _ _ _ c.shl.ensures) (law.not_law _ _ c.not.ensures)

pub returns-else-is_negative : goal.returns-else-is_negative
returns-else-is_negative g c =
    let size = g.S.Numeric.BITS_SIZE in
    other_place size _ _ _ _ g.met.S.SignedInteger.same_size_law (some g)
    ((g.met.S.SignedInteger.fits_law _).0 c.known.ensures) c.as_non_negative.ensures
    (g.met.S.Unsigned.UnsignedInteger.shl_law _ _ _ c.shl-else-is_negative.ensures)
