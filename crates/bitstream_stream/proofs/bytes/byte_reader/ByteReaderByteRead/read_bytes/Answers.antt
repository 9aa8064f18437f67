use Rattle.std.proofs.Common.{rules, ◌≡◌, ◌<◌, length, [], refl}
use Rattle.std.proofs.lemmas.List.{nil_from_length}
use Rattle.bitstream_order.specs.Port.{source_state}
use Rattle.bitstream_stream.specs.WholeBytes.ByteReader.{byte_reader_source}
use Rattle.bitstream_stream.proofs.WholeBytes.ByteReadsLemmas.{bytes_none, bytes_fetched}
use Rattle.bitstream_stream.proofs.bytes.byte_reader.ByteReaderByteRead.read_bytes.Goals as goal

pub returns-then-is_empty : goal.returns-then-is_empty
returns-then-is_empty g c =
    let none : c.args.buf.now ≡ [] = nil_from_length c.args.buf.now (search rules) in
    record { reads = rw none (bytes_none c.args.self.now) }

pub returns : goal.returns
returns g c =
    let len : length c.fetch.new.buf ≡ length c.args.buf.now = search rules in
    let some : 0 < length c.args.buf.now = search rules in
    let before = source_state g.R.Source.stream c.args.self.now.port in
    let after = source_state g.R.Source.stream c.fetch.new.self in
    record {
      reads = bytes_fetched {K = byte_reader_source g.R.Source.stream g.E.Endianness.order} (length c.args.buf.now) c.fetch.new.buf c.fetch.result before
          after _ _ refl refl len some c.fetch.ensures.fetches;
    }
