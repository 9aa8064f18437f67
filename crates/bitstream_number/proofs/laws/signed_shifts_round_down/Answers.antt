use Rattle.std.proofs.Common.{sym, subst}
use Rattle.std.specs.Prelude.{ℤ, pos, ◌^◌, ◌+ℤ◌, ◌*ℤ◌, ◌<ℤ◌}
use Rattle.bitstream_number.proofs.Shifts.{int_shr-lt}
use Rattle.bitstream_number.proofs.laws.signed_shifts_round_down.Goals as goal

pub returns-clause-above : goal.returns-clause-above
returns-clause-above g c =
    let x = g.S.Numeric.integer c.args.value in
    let law = g.met.S.SignedInteger.shr_law _ _ _ c.shr.ensures in
    subst (λ (r : ℤ). x <ℤ ((r +ℤ pos 1) *ℤ pos (2 ^ c.args.by))) (sym law) (int_shr-lt x c.args.by)
