use Rattle.std.proofs.Common.{arith}
use Rattle.std.specs.Prelude.{◌-◌}
use Rattle.bitstream_io.proofs.WriteParts.{all_none}
use Rattle.bitstream_io.proofs.WriteSteps.{next_call, next_write, stop_call, stop_write}
use Rattle.flac_codec.proofs.CodedLemmas.{rest_writes-more, six_bits}
use Rattle.flac_codec.proofs.coded.+write_rest.Goals as goal

pub returns-then-bytes-eq0 : goal.returns-then-bytes-eq0
returns-then-bytes-eq0 g t c = rw c.if-bytes-eq0.true (all_none _ _)

pub returns-in_err-write_const : goal.returns-in_err-write_const
returns-in_err-write_const g t c =
    rw (rest_writes-more g.W.BitWrite.sink.order c.args.bytes c.args.number (omega arith))
    (stop_call _ _ _ _ _ _ _ c.from_residual.ensures.1 c.in_err-write_const.ensures.writes)

pub returns-in_err-write : goal.returns-in_err-write
returns-in_err-write g t c =
    rw (rest_writes-more g.W.BitWrite.sink.order c.args.bytes c.args.number (omega arith), ← six_bits c.args.number (c.args.bytes - 1))
    (next_call _ _ _ _ _ _ _ c.in_ok-write_const.ensures.writes
    (stop_write _ _ _ _ _ _ _ c.from_residual-in_err-write.ensures.1 c.in_err-write.ensures.writes))

pub returns : goal.returns
returns g t c =
    rw (rest_writes-more g.W.BitWrite.sink.order c.args.bytes c.args.number (omega arith), ← six_bits c.args.number (c.args.bytes - 1))
    (next_call _ _ _ _ _ _ _ c.in_ok-write_const.ensures.writes
    (next_write _ _ _ _ _ _ _ c.in_ok-write.ensures.writes c.write_rest.ensures))
