use Rattle.std.proofs.Common.{take, Ok}
use Rattle.std.specs.Prelude.{flat_map}
use Rattle.bitstream_stream.specs.Writing.Sink.{WritesAll}
use Rattle.bitstream_value.proofs.integer.array.ArrayVBRInteger.write_vbr.Given as goal

-- the items so far were written
abbrev pub invariant-loop-item : goal.invariant-loop-item
invariant-loop-item g l =
    WritesAll g.W.BitWrite.sink (flat_map (g.I.VBRInteger.writes_vbr g.W.BitWrite.sink.order g.F.Width.BITS)
    (take l.item-index l.item-items)) l.fn.writer (Ok tt) l.writer
