use Rattle.std.proofs.Common.{take, Ok}
use Rattle.std.specs.Prelude.{flat_map}
use Rattle.bitstream_stream.specs.Writing.Sink.{WritesAll}
use Rattle.bitstream_value.proofs.integer.array.ArrayInteger.write_var.Given as goal

-- the items so far were written
abbrev pub invariant-loop-item : goal.invariant-loop-item
invariant-loop-item g l =
    WritesAll g.W.BitWrite.sink (flat_map (g.I.Integer.writes g.W.BitWrite.sink.order (g.C.Count.number l.bits))
    (take l.item-index l.item-items)) l.fn.writer (Ok tt) l.writer
