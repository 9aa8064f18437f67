use Rattle.std.proofs.Common.{ap, sym, ◌∙◌, arith, ◌≤◌}
use Rattle.bitstream_number.proofs.Shifts.{shr_past}
use Rattle.bitstream_number.proofs.number.unsigned.UnsignedInteger.shr_default.Goals as goal

pub returns-in-None : goal.returns-in-None
returns-in-None g c =
    let u = g.Self.UnsignedInteger in
    let x = c.args.self in
    let h = c.in-None.ensures in
    let past : g.Self.Numeric.BITS_SIZE ≤ c.args.rhs = omega (arith, h) in
    let below = g.met.Self.UnsignedInteger.known_law x c.known.ensures in
    ap u.value c.ZERO.ensures ∙ g.met.Self.UnsignedInteger.ZERO_value_law
    ∙ sym (shr_past (u.value x) g.Self.Numeric.BITS_SIZE c.args.rhs below past)
