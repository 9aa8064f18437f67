use Rattle.std.proofs.Common.{take}
use Rattle.bitstream_io.specs.ReadScript.{ReadsEach}
use Rattle.bitstream_io.proofs.script.reads.read_calls.Given as goal

abbrev pub invariant-loop-i : goal.invariant-loop-i
invariant-loop-i g l = ReadsEach g.R.BitRead.source (take l.i l.calls) l.fn.reader (take l.i l.answers) l.reader
