use Rattle.bitstream_stream.specs.Writing.CodeWord.{code_bits}
use Rattle.bitstream_stream.proofs.Writing.CodeWrites.{Progress}
use Rattle.bitstream_stream.proofs.write.writer.BitWriterBitWrite.write_code_word.Given as goal

-- whole bytes were sent, bit by bit
abbrev pub invariant-loop-left : goal.invariant-loop-left
invariant-loop-left g l =
    Progress g.W.Target.stream g.E.Endianness.order (code_bits l.fn.word) l.total l.all l.initial.self l.left l.self

abbrev pub decreases-loop-left : goal.decreases-loop-left
decreases-loop-left g l = l.left
