-- The meaning of a reader's fields. A source of bits is a record with its laws in it: so lemmas are imported.
use Rattle.std.specs.Prelude.{◌≡◌, ℕ, ◌+◌, ◌-◌, ◌≤◌, Bool, false, List, [], Option, OnOk, Result}
use Rattle.std.proofs.Common.{ap, ◌∙◌}
use Rattle.bitstream_order.specs.Reference.{Reference}
use Rattle.bitstream_number.specs.Word.{Order, word}
use Rattle.bitstream_number.proofs.WordLemmas.{length-word}
use Rattle.bitstream_order.proofs.Moving.TakeLemmas.{word-none}
use Rattle.bitstream_order.specs.Parts.{first_part}
use Rattle.bitstream_order.specs.Port.{PortState, source_state, fetched_count, requests_count}
use Rattle.bitstream_order.specs.Refusal.{MayRefuseRead}
use Rattle.bitstream_order.specs.Streams.{InputStream}
use Rattle.bitstream_order.specs.Moving.Pieces.{pieces}
use Rattle.bitstream_count.specs.declared.error.Error.{Error}
use Rattle.bitstream_stream.specs.declared.read.reader.BitReader.{BitReader}
use Rattle.bitstream_stream.specs.Reading.Reads.{ReaderState, BitSource}

-- the queued bits are the encoding of `queue`
abbrev pub reader_state : Order → PortState → ℕ → ℕ → ℕ → Bool → ReaderState
reader_state o port queue queued taken failed = record {
  queue = word o queued queue;
  bytes = port.bytes;
  taken = taken;
  fetched = port.fetched;
  failed = failed;
  refusals = port.refusals;
  references = port.references;
}

-- the queued bits as a number; they are the first bits of the queue
abbrev pub queued_number : {R E : Type 0} → Order → BitReader R E → ℕ
queued_number o r = first_part o r.queue 8 r.queued

-- a reader as a source of bits
abbrev pub reader_source : {R E : Type 0} → InputStream R → Order → BitSource (BitReader R E)
reader_source I o = record {
  order = o;
  state = λ r. reader_state o (source_state I r.port) (queued_number o r) r.queued r.taken.count r.failed;
  may = MayRefuseRead I;
  demands = λ r. r.whole;
  holds = λ r fine. ap (λ n. r.taken.count + n) (length-word o r.queued (queued_number o r)) ∙ r.back fine;
  empties = λ r failed. ap (λ n. word o n (queued_number o r)) (r.empty failed) ∙ word-none o (queued_number o r);
}

-- a new reader of a stream with these known bytes
abbrev pub new_reader_state : Option (List ℕ) → List Reference → ReaderState
new_reader_state remaining references = record {
  queue = [];
  bytes = remaining;
  taken = 0;
  fetched = 0;
  failed = false;
  refusals = [];
  references = references;
}

-- the number of bits that a reader has queued
abbrev pub queued_bits : {R E : Type 0} → BitReader R E → ℕ
queued_bits reader = reader.queued

-- the number of requests that a reader made
abbrev pub requests_made : {R E : Type 0} → BitReader R E → ℕ
requests_made reader = requests_count reader.port

-- the number of iterations that a reader made to read unary numbers
abbrev pub turns_made : {R E : Type 0} → BitReader R E → ℕ
turns_made reader = reader.turns.count

-- the number of bytes that a reader fetched
abbrev pub bytes_fetched : {R E : Type 0} → BitReader R E → ℕ
bytes_fetched reader = fetched_count reader.port

-- a call that returned a value took one iteration more than the number of bytes that it fetched
abbrev pub TurnsByBytes : {R E A : Type 0} → BitReader R E → Result A Error → BitReader R E → Type 0
TurnsByBytes old result new = OnOk result (turns_made new
    ≡ turns_made old + (bytes_fetched new - bytes_fetched old) + 1)

-- a call for an encoding of n bits made at most one request, and none if the queue was enough
abbrev pub AsksForWord : {R E : Type 0} → ℕ → BitReader R E → BitReader R E → Type 0
AsksForWord n old new = (requests_made new ≤ requests_made old + 1)
    × (n ≤ queued_bits old → requests_made new ≡ requests_made old)

-- a call for n bytes that returned a value made one request for each of their pieces
abbrev pub AsksForBytes : {R E A : Type 0} → ℕ → ℕ → BitReader R E → Result A Error → BitReader R E → Type 0
AsksForBytes most n old result new = OnOk result (requests_made new
    ≡ requests_made old + pieces most (queued_bits old) n)
