-- The streams of readers and writers, and readers and writers after their stream was lent. Lemmas are imported, because
-- a reader or writer whose queue was dropped must still satisfy the facts of its type.
use Rattle.std.specs.Prelude.{◌≡◌, ◌+◌, true, false, [], Result, Ok, Err}
use Rattle.std.specs.Borrow.{GName}
use Rattle.std.proofs.Common.{refl}
use Rattle.bitstream_count.specs.declared.error.Error.{Error}
use Rattle.bitstream_count.specs.declared.error.Error.TheVariants.{Failed}
use Rattle.bitstream_order.specs.Port.{Sent, SendRefused, port_stream, with_stream}
use Rattle.bitstream_order.specs.Refusal.{Refusal}
use Rattle.bitstream_order.specs.declared.streams.lent.Lent.{Lent}
use Rattle.bitstream_order.specs.Moving.Gather.{result_map}
use Rattle.bitstream_order.proofs.DropLemmas.{none_few, dropped_whole, dropped_back}
use Rattle.bitstream_stream.specs.Writing.Carries.{WriterState}
use Rattle.bitstream_stream.specs.Writing.Sink.{Sink, Writes}
use Rattle.bitstream_stream.specs.Writing.WriteTable.{align}
use Rattle.bitstream_stream.specs.declared.read.reader.BitReader.{BitReader}
use Rattle.bitstream_stream.specs.declared.write.writer.BitWriter.{BitWriter}
use Rattle.bitstream_stream.specs.declared.bytes.byte_reader.ByteReader.{ByteReader}
use Rattle.bitstream_stream.specs.declared.bytes.byte_writer.ByteWriter.{ByteWriter}

-- the stream of a reader
abbrev pub reader_stream : {R E : Type 0} → BitReader R E → R
reader_stream reader = port_stream reader.port

-- the stream of a writer
abbrev pub writer_stream : {W E : Type 0} → BitWriter W E → W
writer_stream writer = port_stream writer.port

-- the stream of a reader of bytes
abbrev pub byte_reader_stream : {R E : Type 0} → ByteReader R E → R
byte_reader_stream reader = port_stream reader.port

-- the stream of a writer of bytes
abbrev pub byte_writer_stream : {W E : Type 0} → ByteWriter W E → W
byte_writer_stream writer = port_stream writer.port

-- an unchanged reader, except for its stream
abbrev pub reader_with : {R E : Type 0} → BitReader R E → R → BitReader R E
reader_with reader stream = record reader { port = with_stream reader.port stream }

-- an unchanged writer, except for its stream
abbrev pub writer_with : {W E : Type 0} → BitWriter W E → W → BitWriter W E
writer_with writer stream = record writer { port = with_stream writer.port stream }

-- an unchanged reader of bytes, except for its stream
abbrev pub byte_reader_with : {R E : Type 0} → ByteReader R E → R → ByteReader R E
byte_reader_with reader stream = record reader { port = with_stream reader.port stream }

-- an unchanged writer of bytes, except for its stream
abbrev pub byte_writer_with : {W E : Type 0} → ByteWriter W E → W → ByteWriter W E
byte_writer_with writer stream = record writer { port = with_stream writer.port stream }

-- a reader whose queue was dropped. A reader that has failed has an empty queue.
abbrev pub aligned_reader : {R E : Type 0} → BitReader R E → BitReader R E
aligned_reader reader = record {
  port = reader.port;
  queue = 0;
  queued = 0;
  taken = record { seal = tt; count = reader.taken.count + reader.queued };
  turns = reader.turns;
  failed = reader.failed;
  order = reader.order;
  few = none_few;
  whole = dropped_whole reader.failed reader.port.fetched.count reader.taken.count reader.queued reader.whole
      reader.back reader.empty;
  back = dropped_back reader.failed reader.port.fetched.count reader.taken.count reader.queued reader.back;
  empty = λ _. refl;
}

-- the name of the reference through which a reader reaches a stream that was lent
abbrev pub reader_name : {R E : Type 0} → BitReader (Lent R) E → GName
reader_name reader = (port_stream reader.port).at.ghost_name

-- the name of the reference through which a writer reaches a stream that was lent
abbrev pub writer_name : {W E : Type 0} → BitWriter (Lent W) E → GName
writer_name writer = (port_stream writer.port).at.ghost_name

-- the name of the reference through which a reader of bytes reaches a stream that was lent
abbrev pub byte_reader_name : {R E : Type 0} → ByteReader (Lent R) E → GName
byte_reader_name reader = (port_stream reader.port).at.ghost_name

-- the name of the reference through which a writer of bytes reaches a stream that was lent
abbrev pub byte_writer_name : {W E : Type 0} → ByteWriter (Lent W) E → GName
byte_writer_name writer = (port_stream writer.port).at.ghost_name

-- a writer that equals another, except for its stream
pub record IsWriterWith {W E : Type 0} (old : BitWriter W E) (stream : W) (new : BitWriter W E) : Type 0 where
  pub port : new.port ≡ with_stream old.port stream
  pub queue : new.queue ≡ old.queue
  pub queued : new.queued ≡ old.queued
  pub failed : new.failed ≡ old.failed

-- the stream of an aligned writer
abbrev pub IsAlignedStream : {W E : Type 0} → Sink (BitWriter W E) → BitWriter W E → W → Type 0
IsAlignedStream {W} {E} K old stream = (aligned : BitWriter W E) × Writes {T = Unit {0}} K align old (Ok tt) aligned
    × (stream ≡ writer_stream aligned)

-- an aligned writer after its stream was lent
abbrev pub EndsAligned : {W E : Type 0} → Sink (BitWriter W E) → BitWriter W E → BitWriter W E → W → Type 0
EndsAligned {W} {E} K old new stream = (aligned : BitWriter W E) × Writes {T = Unit {0}} K align old (Ok tt) aligned
    × IsWriterWith aligned stream new

-- a writer that could not be aligned
abbrev pub EndsUnaligned : {W E A : Type 0} → Sink (BitWriter W E) → BitWriter W E → Result A Error → BitWriter W E
    → Type 0
EndsUnaligned K old result new = Writes {T = Unit {0}} K align old (result_map (λ _. tt) result) new

-- A flush. The writer had failed; or the stream passed on its buffered bytes, and all else is unchanged; or the
-- request failed, as the stream allows, and the writer has failed with an empty queue.
pub data Flushes (may : Refusal → Type 0) (old : WriterState) (result : Result (Unit {0}) Error) (new : WriterState) :
    Type 0 where
  had_failed : old.failed ≡ true → result ≡ Err Failed → new ≡ old → Flushes may old result new
  was_done : old.failed ≡ false → result ≡ Ok tt → Sent old.port [] new.port → new ≡ record old { port = new.port }
      → Flushes may old result new
  was_refused : (error : Error) → old.failed ≡ false → result ≡ Err error → SendRefused may error old.port 0 new.port
      → new.queued ≡ 0 → new.failed ≡ true
      → Flushes may old result new
