-- The meaning of the states of a `ByteReader`.
use Rattle.std.specs.Prelude.{◌≡◌, ℕ, Result, Ok, Err}
use Rattle.std.specs.IoError.{error_kind}
use Rattle.std.specs.declared.io.Error.{Error as IoError}
use Rattle.bitstream_number.specs.Word.{Order}
use Rattle.bitstream_count.specs.Kind.{kind_of}
use Rattle.bitstream_count.specs.declared.error.Error.{Error}
use Rattle.bitstream_order.specs.Port.{PortState, SendRefused, Sought, source_state}
use Rattle.bitstream_order.specs.Refusal.{MayRefuseRead, Refusal}
use Rattle.bitstream_order.specs.Streams.{InputStream}
use Rattle.bitstream_stream.specs.declared.bytes.byte_reader.ByteReader.{ByteReader}
use Rattle.bitstream_stream.specs.WholeBytes.ByteReads.{ByteReaderState, ByteSource}

-- all bytes fetched were taken
abbrev pub byte_reader_state : PortState → ByteReaderState
byte_reader_state port = record {
  bytes = port.bytes;
  taken = port.fetched;
  refusals = port.refusals;
  references = port.references;
}

-- a reader of bytes as a source
abbrev pub byte_reader_source : {R E : Type 0} → InputStream R → Order → ByteSource (ByteReader R E)
byte_reader_source I o = record {
  order = o;
  state = λ r. byte_reader_state (source_state I r.port);
  may = MayRefuseRead I;
}

-- a reader, from what is known of its stream
abbrev pub byte_reader_port : {R E : Type 0} → InputStream R → ByteReader R E → PortState
byte_reader_port I r = source_state I r.port

-- A seek by one request, after which the count of fetched bytes starts again. If the request failed, the
-- `io::Error` has the kind of that failed request, and the count of fetched bytes is unchanged.
abbrev pub ByteSeeks : (Refusal → Type 0) → PortState → Result ℕ IoError → PortState → Type 0
ByteSeeks may old (Ok at) new = Sought old new
ByteSeeks may old (Err e) new = (error : Error) × SendRefused may error old 0 new × (error_kind e ≡ kind_of error)
