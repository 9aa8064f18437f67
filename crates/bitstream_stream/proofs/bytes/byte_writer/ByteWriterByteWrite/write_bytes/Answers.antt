use Rattle.std.proofs.Common.{rules, ◌≡◌, [], refl}
use Rattle.std.proofs.lemmas.List.{nil_from_length}
use Rattle.bitstream_stream.specs.WholeBytes.ByteSink.{was_done}
use Rattle.bitstream_stream.specs.WholeBytes.ByteWriter.{byte_writer_sink}
use Rattle.bitstream_stream.proofs.WholeBytes.ByteWritesLemmas.{none_appended, bytes_sent}
use Rattle.bitstream_stream.proofs.bytes.byte_writer.ByteWriterByteWrite.write_bytes.Goals as goal

pub returns-then-is_empty : goal.returns-then-is_empty
returns-then-is_empty g c =
    let K = byte_writer_sink {E = g.row.E.Denot} g.W.Target.stream
    g.E.Endianness.order in
    let none : c.args.bytes.now ≡ [] = nil_from_length c.args.bytes.now (search rules) in
    record { writes = rw none (was_done tt tt refl (none_appended K c.args.self.now)) }

pub returns : goal.returns
returns g c = record {
  writes = bytes_sent g.W.Target.stream
      g.E.Endianness.order c.args.bytes.now _ _ _ (search rules) c.send.ensures;
}
