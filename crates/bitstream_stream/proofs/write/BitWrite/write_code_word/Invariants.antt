use Rattle.std.proofs.Common.{Ok, take}
use Rattle.bitstream_stream.specs.Writing.CodeWord.{code_bits}
use Rattle.bitstream_stream.specs.Writing.Sink.{WritesAll}
use Rattle.bitstream_stream.specs.Writing.WriteTable.{bit_by_bit}
use Rattle.bitstream_stream.proofs.write.BitWrite.write_code_word.Given as goal

-- the first bits were written
abbrev pub invariant-loop-at : goal.invariant-loop-at
invariant-loop-at g l =
    WritesAll g.Self.BitWrite.sink (bit_by_bit (take l.at (code_bits l.word))) l.initial.self (Ok tt) l.self
