use Rattle.std.proofs.Common.{ap, sym, ◌∙◌, arith, ◌≤◌}
use Rattle.bitstream_number.proofs.Shifts.{shl_past}
use Rattle.bitstream_number.proofs.number.unsigned.UnsignedInteger.shl_default.Goals as goal

pub returns-in-None : goal.returns-in-None
returns-in-None g c =
    let u = g.Self.UnsignedInteger in
    let h = c.in-None.ensures in
    let past : g.Self.Numeric.BITS_SIZE ≤ c.args.rhs = omega (arith, h) in
    ap u.value c.ZERO.ensures ∙ g.met.Self.UnsignedInteger.ZERO_value_law
    ∙ sym (shl_past (u.value c.args.self) g.Self.Numeric.BITS_SIZE c.args.rhs past)
