use Rattle.bitstream_io.specs.Loop.{ItemsWritten}
use Rattle.bitstream_format.specs.Until.{until_word}
use Rattle.bitstream_format.proofs.until.write_until.Given as goal

-- the bytes so far were written
abbrev pub invariant-loop-byte : goal.invariant-loop-byte
invariant-loop-byte g l =
    let K = g.W.BitWrite.sink in
    ItemsWritten K (until_word K.order l.stop) l.bytes l.byte-index l.initial.writer l.writer
