use Rattle.std.proofs.Common.{arith}
use Rattle.std.proofs.lemmas.Bool.{le-leb}
use Rattle.bitstream_io.proofs.WriteParts.{all_one}
use Rattle.bitstream_io.proofs.WriteSteps.{next_call, stop_call}
use Rattle.bitstream_format.specs.VarintLaws.{has_varint}
use Rattle.bitstream_format.proofs.varint.write_varint.Goals as goal

pub returns-then-value-ge4611686018427387904 : goal.returns-then-value-ge4611686018427387904
returns-then-value-ge4611686018427387904 g c = rw (le-leb 4611686018427387904 c.args.value (omega arith))
    (all_one _ _ _ _ _ c.write_unsigned_var.ensures.writes)

pub returns-in_err-write_unsigned_var : goal.returns-in_err-write_unsigned_var
returns-in_err-write_unsigned_var g c = rw (has_varint _ c.args.value (omega arith))
    (stop_call _ _ _ _ _ _ _ c.from_residual.ensures.1
    (rw c.varint_length-length.ensures at c.in_err-write_unsigned_var.ensures.writes))

pub returns : goal.returns
returns g c = rw (has_varint _ c.args.value (omega arith))
    (next_call _ _ _ _ _ _ _ (rw c.varint_length-length.ensures at c.in_ok-write_unsigned_var.ensures.writes)
    (all_one _ _ _ _ _ (rw (c.varint_width.ensures, c.varint_length-length.ensures) at c.write_unsigned_var-3.ensures.writes)))
