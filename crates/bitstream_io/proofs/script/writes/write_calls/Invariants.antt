use Rattle.std.proofs.Common.{take}
use Rattle.bitstream_io.specs.Script.{WritesSequence, write_encoders}
use Rattle.bitstream_io.proofs.script.writes.write_calls.Given as goal

abbrev pub invariant-loop-i : goal.invariant-loop-i
invariant-loop-i g l =
    let K = g.W.BitWrite.sink in
    WritesSequence K (write_encoders K.limit K.order (take l.i l.calls)) l.fn.writer (take l.i l.answers) l.writer
