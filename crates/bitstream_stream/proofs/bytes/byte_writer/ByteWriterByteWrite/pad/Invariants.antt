use Rattle.std.proofs.Common.{◌≡◌, ◌+◌, ℕ, replicate}
use Rattle.bitstream_stream.specs.WholeBytes.ByteSink.{BytesAppended}
use Rattle.bitstream_stream.specs.WholeBytes.ByteWriter.{byte_writer_sink}
use Rattle.bitstream_stream.proofs.bytes.byte_writer.ByteWriterByteWrite.pad.Given as goal

-- k zeros so far, and the rest to come
abbrev pub invariant-loop-left : goal.invariant-loop-left
invariant-loop-left g l =
    let K = byte_writer_sink g.W.Target.stream g.E.Endianness.order in
    (k : ℕ) × (k + l.left ≡ l.fn.bytes) × BytesAppended K l.fn.self (replicate k 0) l.self

abbrev pub decreases-loop-left : goal.decreases-loop-left
decreases-loop-left g l = l.left
