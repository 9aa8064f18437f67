-- The meaning of the states of a writer. A sink is a record with its laws in it: so lemmas are imported.
use Rattle.std.specs.Prelude.{◌≡◌, ℕ, ◌+◌, ◌*◌, ◌≤◌, ◌<◌, Bool, false, List, Option, None, OnOk, Result, Ok, Err}
use Rattle.bitstream_order.specs.Reference.{Reference}
use Rattle.std.specs.Io.KnownBytes.{Appends}
use Rattle.bitstream_number.specs.Word.{Order, bits}
use Rattle.bitstream_order.specs.Moving.Pieces.{pieces}
use Rattle.bitstream_order.specs.Port.{target_state, new_port_state, requests_count}
use Rattle.bitstream_order.specs.Refusal.{Refusal, MayRefuseWrite}
use Rattle.bitstream_order.specs.Streams.{OutputStream}
use Rattle.bitstream_count.specs.declared.error.Error.{Error}
use Rattle.bitstream_stream.specs.Writing.Carries.{WriterState, Carries, Fills}
use Rattle.bitstream_stream.specs.Writing.CarriesLaws.{Carries-nil, Carries-trans, Fills-behind, Carries-len}
use Rattle.bitstream_stream.specs.Writing.Sink.{Sink, Appended, WriteRefused, inner_sink}
use Rattle.bitstream_stream.specs.declared.write.writer.BitWriter.{BitWriter}

-- a writer, from what is known of its stream
abbrev pub writer_state : {W E : Type 0} → OutputStream W → BitWriter W E → WriterState
writer_state O w = record {
  port = target_state O w.port;
  queued = w.queued;
  queue = w.queue;
  failed = w.failed;
}

-- the number of requests that a writer made
abbrev pub requests_made : {W E : Type 0} → BitWriter W E → ℕ
requests_made writer = requests_count writer.port

-- the number of bits that a writer has queued
abbrev pub queued_bits : {W E : Type 0} → BitWriter W E → ℕ
queued_bits writer = writer.queued

-- the number of these bits
abbrev pub queue_number : {W E : Type 0} → BitWriter W E → ℕ
queue_number writer = writer.queue

-- true if a writer has failed
abbrev pub has_failed : {W E : Type 0} → BitWriter W E → Bool
has_failed writer = writer.failed

-- a call for an encoding of n bits made at most one request, and none if it filled no byte
abbrev pub AsksForWord : {W E : Type 0} → ℕ → BitWriter W E → BitWriter W E → Type 0
AsksForWord n old new = (requests_made new ≤ requests_made old + 1)
    × (queued_bits old + n < 8 → requests_made new ≡ requests_made old)

-- a call for n bytes that returned a value made one request for each of their pieces
abbrev pub AsksForBytes : {W E A : Type 0} → ℕ → ℕ → BitWriter W E → Result A Error → BitWriter W E → Type 0
AsksForBytes most n old result new = OnOk result (requests_made new
    ≡ requests_made old + pieces most (queued_bits old) n)

-- a new writer, from what is known of its stream
abbrev pub new_writer_state : Option (List ℕ) → List Reference → WriterState
new_writer_state contents references = record {
  port = new_port_state contents references;
  queued = 0;
  queue = 0;
  failed = false;
}

-- the states of a writer as a sink
abbrev pub queue_sink : (Refusal → Type 0) → Order → Sink WriterState
queue_sink may o = record {
  order = o;
  appends = Carries o;
  contents = λ a. a.port.bytes;
  fills = Fills o;
  len = λ a. 8 * a.port.sent + a.queued;
  limit = None;
  failed = λ a. a.failed;
  refusals = λ a. a.port.refusals;
  may = may;
  references = λ a. a.port.references;
  appends_nil = Carries-nil o;
  appends_trans = Carries-trans o;
  fills_behind = Fills-behind o;
  within = λ _. tt;
  appends_len = Carries-len o;
  limit_full = tt;
}

-- bytes with these bits were added to the contents of a stream, if they are known
pub record AddsBits (o : Order) (old : Option (List ℕ)) (x : List Bool) (new : Option (List ℕ)) : Type 0 where
  pub bytes : List ℕ
  pub grows : Appends old new bytes
  pub bits : bits o bytes ≡ x

-- the bits x were written by a writer that has not failed; or a request failed, and so has the writer
abbrev pub Pushes : (Refusal → Type 0) → Order → List Bool → WriterState → Result (Unit {0}) Error → WriterState
    → Type 0
Pushes may o x old (Ok done) new = Appended (queue_sink may o) old x new
Pushes may o x old (Err error) new = WriteRefused (queue_sink may o) old x error new

-- a writer as a sink
abbrev pub writer_sink : {W E : Type 0} → OutputStream W → Order → Sink (BitWriter W E)
writer_sink O o = inner_sink (writer_state O) (queue_sink (MayRefuseWrite O) o)
