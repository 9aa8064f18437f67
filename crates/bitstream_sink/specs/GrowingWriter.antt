-- A writer over a vector of bytes.
use Rattle.std.specs.Prelude.{◌≡◌, ℕ, List, length}
use Rattle.bitstream_number.specs.Word.{Order}
use Rattle.bitstream_order.specs.Streaming.Growing.{growing_bytes, growing_stream}
use Rattle.bitstream_order.specs.declared.streams.growing.Growing.{Growing}
use Rattle.bitstream_stream.specs.Writing.Carries.{WriterState}
use Rattle.bitstream_stream.specs.Writing.Sink.{Sink}
use Rattle.bitstream_stream.specs.Ways.{writer_stream}
use Rattle.bitstream_stream.specs.Writing.Writer.{writer_state, writer_sink}
use Rattle.bitstream_stream.specs.declared.write.writer.BitWriter.{BitWriter}

-- the bytes that a writer has sent
abbrev pub written_bytes : {A E : Type 0} → BitWriter (Growing A) E → List ℕ
written_bytes writer = growing_bytes (writer_stream writer)

-- the known state of this writer
abbrev pub growing_state : {A E : Type 0} → BitWriter (Growing A) E → WriterState
growing_state = writer_state growing_stream

-- this writer as a sink
abbrev pub growing_sink : {A E : Type 0} → Order → Sink (BitWriter (Growing A) E)
growing_sink = writer_sink growing_stream

-- the vector holds the bytes that were sent, and no others
abbrev pub HoldsAll : {A E : Type 0} → BitWriter (Growing A) E → Type 0
HoldsAll writer = (growing_state writer).port.sent ≡ length (written_bytes writer)
