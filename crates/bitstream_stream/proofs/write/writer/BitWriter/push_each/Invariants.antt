use Rattle.std.proofs.Common.{Ok, take}
use Rattle.bitstream_stream.specs.Writing.CodeWord.{code_bits}
use Rattle.bitstream_stream.specs.Writing.Sink.{WritesAll}
use Rattle.bitstream_stream.specs.Writing.Writer.{writer_sink}
use Rattle.bitstream_stream.specs.Writing.WriteTable.{bit_by_bit}
use Rattle.bitstream_stream.proofs.write.writer.BitWriter.push_each.Given as goal

-- the first bits were written
abbrev pub invariant-loop-at : goal.invariant-loop-at
invariant-loop-at g l =
    WritesAll (writer_sink g.W.Target.stream g.E.Endianness.order) (bit_by_bit (take l.at (code_bits l.word)))
    l.initial.self (Ok tt) l.self
