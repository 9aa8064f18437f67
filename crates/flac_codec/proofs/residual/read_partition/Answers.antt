use Rattle.std.proofs.Common.{arith, ◌≤◌, ◌^◌}
use Rattle.std.proofs.Math.Pow.{pow_mono}
use Rattle.std.proofs.lemmas.Bool.{eq-eqb, ne_eqb}
use Rattle.std.proofs.lemmas.Nat.{one_shl}
use Rattle.bitstream_io.proofs.CallerLemmas.{go_grown, stop_grown, grown, grown_end, if_growing, else_growing}
use Rattle.flac_codec.proofs.ResultLemmas.{map_stop}
use Rattle.flac_codec.proofs.residual.read_partition.Goals as goal

pub returns-in_err-parameter : goal.returns-in_err-parameter
returns-in_err-parameter g c =
    stop_grown _ (grown c.in_err-parameter.ensures.reads)
    (map_stop c.in_err-parameter.field-0.0 c.from_residual.result c.from_residual.ensures.1)

pub returns-then-parameter-bits : goal.returns-then-parameter-bits
returns-then-parameter-bits g c =
    let shl = one_shl c.args.bits 32 (omega (arith, c.requires)) in
    let escape = rw shl at c.if-parameter-bits.true in
    go_grown _ (grown c.in_ok-parameter.ensures.reads) (if_growing _ _ _ (eq-eqb _ _ escape) c.read_escaped.ensures)

pub read_numbers-requires : goal.read_numbers-requires
read_numbers-requires g c =
    let most : 2 ^ c.args.bits ≤ 2 ^ 5 = pow_mono {i = c.args.bits} {j = 5} c.requires in
    let fits = c.in_ok-parameter.ensures.fits in
    omega (arith, most, fits)

pub returns-in_err-read_numbers : goal.returns-in_err-read_numbers
returns-in_err-read_numbers g c =
    let shl = one_shl c.args.bits 32 (omega (arith, c.requires)) in
    let coded = rw shl at c.if-parameter-bits.false in
    go_grown _ (grown c.in_ok-parameter.ensures.reads) (else_growing _ _ _ (ne_eqb _ _ coded)
    (stop_grown _ c.in_err-read_numbers.ensures
    (map_stop c.in_err-read_numbers.field-0.0 c.from_residual-in_err-read_numbers.result c.from_residual-in_err-read_numbers.ensures.1)))

pub returns : goal.returns
returns g c =
    let shl = one_shl c.args.bits 32 (omega (arith, c.requires)) in
    let coded = rw shl at c.if-parameter-bits.false in
    go_grown _ (grown c.in_ok-parameter.ensures.reads) (else_growing _ _ _ (ne_eqb _ _ coded)
    (go_grown _ c.in_ok-read_numbers.ensures (grown_end _ _)))
