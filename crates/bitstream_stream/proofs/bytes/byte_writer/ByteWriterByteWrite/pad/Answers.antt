use Rattle.std.proofs.Common.{rules, ◌≡◌, ◌+◌, replicate, refl, subst, arith}
use Rattle.bitstream_stream.proofs.Shared.{exit_is}
use Rattle.bitstream_stream.specs.WholeBytes.ByteSink.{BytesAppended, was_refused, was_done}
use Rattle.bitstream_stream.specs.WholeBytes.ByteWriter.{byte_writer_sink}
use Rattle.bitstream_stream.proofs.WholeBytes.ByteWritesLemmas.{zeros_more, zeros_stopped}
use Rattle.bitstream_stream.proofs.bytes.byte_writer.ByteWriterByteWrite.pad.Goals as goal

pub returns-in_err-write_bytes : goal.returns-in_err-write_bytes
returns-in_err-write_bytes g c =
    let K = byte_writer_sink {E = g.row.E.Denot} g.W.Target.stream
    g.E.Endianness.order in
    let piece = c.min-piece.result in
    record {
      writes = was_refused _ tt (exit_is _ c.from_residual.ensures.1)
          (zeros_stopped K c.loop-left.invariant.0 piece 1024 c.args.bytes _ c.args.self.now c.loop-left.self
          c.write_bytes.new.self (search rules) (omega (arith, c.loop-left.invariant.1, c.min-piece.ensures)) refl
          c.loop-left.invariant.2 c.in_err-write_bytes.ensures.writes);
    }

pub loop-left-preserved : goal.loop-left-preserved
loop-left-preserved g c =
    let K = byte_writer_sink {E = g.row.E.Denot} g.W.Target.stream
    g.E.Endianness.order in
    let k = c.loop-left.invariant.0 in
    let piece = c.min-piece.result in (
      k + piece,
      omega (arith, c.loop-left.invariant.1, c.min-piece.ensures),
      zeros_more K k piece 1024 c.args.self.now c.loop-left.self c.write_bytes.new.self _ (search rules)
          c.loop-left.invariant.2 c.in_ok-write_bytes.ensures.writes,
    )

pub returns : goal.returns
returns g c =
    let K = byte_writer_sink {E = g.row.E.Denot} g.W.Target.stream
    g.E.Endianness.order in
    let all : c.loop-left.invariant.0 ≡ c.args.bytes = omega (arith, c.loop-left-test.false, c.loop-left.invariant.1) in
    record {
      writes = was_done tt tt refl (subst (λ n. BytesAppended K c.args.self.now (replicate n 0) c.loop-left.self)
          all c.loop-left.invariant.2);
    }
