-- The properties of a buffered stream as a source.
use Rattle.std.specs.Prelude.{ℕ, List, [], Option}
use Rattle.bitstream_order.specs.Streams.{InputStream}
use Rattle.bitstream_io.specs.declared.buffered.Buffered.{Buffered}

-- the stream
abbrev pub buffered_reader : {B : Type 0} → Buffered B → B
buffered_reader b = b.reader

-- The contract of std's `Read` states only the bytes left, if they are known. Any request may fail.
abbrev pub buffered_stream : {B : Type 0} → (B → Option (List ℕ)) → InputStream (Buffered B)
buffered_stream remaining = record {
  remaining = λ b. remaining b.reader;
  references = λ _. [];
  refuses = λ _ _ _ _. Unit {0};
  takes = λ _ _ _. Unit {0};
}
