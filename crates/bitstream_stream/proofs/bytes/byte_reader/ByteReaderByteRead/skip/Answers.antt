use Rattle.std.proofs.Common.{rules, ◌≡◌, ◌+◌, ◌≤◌, [], ◌++◌, take, length, Ok, Err, subst, arith, length-take-le}
use Rattle.bitstream_stream.specs.WholeBytes.ByteReads.{ByteReads, given_bytes}
use Rattle.bitstream_stream.specs.WholeBytes.ByteReader.{byte_reader_source}
use Rattle.bitstream_stream.proofs.WholeBytes.ByteReadsLemmas.{bytes_none, bytes_more, bytes_stop, bytes_skipped, left_by}
use Rattle.bitstream_stream.proofs.bytes.byte_reader.ByteReaderByteRead.skip.Goals as goal

pub loop-left-init : goal.loop-left-init
loop-left-init g c = (0, omega arith, ([], bytes_none c.args.self.now))

pub returns-in_err-read_bytes : goal.returns-in_err-read_bytes
returns-in_err-read_bytes g c =
    let piece = c.min-piece.result in
    let few : piece ≤ 1024 = search rules in
    let size : length (take piece c.loop-left.skipped) ≡ piece =
    length-take-le piece c.loop-left.skipped (search rules) in
    record {
      reads = left_by c.from_residual.result c.from_residual.ensures.1
          (bytes_skipped c.args.bytes (Err _) c.args.self.now c.read_bytes.new.self
          (bytes_stop c.loop-left.invariant.0 (length (take piece c.loop-left.skipped)) c.args.bytes
          c.loop-left.invariant.2.0 _ c.args.self.now c.loop-left.self c.read_bytes.new.self
          (rw size (omega (arith, c.loop-left.invariant.1, c.min-piece.ensures))) c.loop-left.invariant.2.1
          c.in_err-read_bytes.ensures.reads));
    }

pub loop-left-preserved : goal.loop-left-preserved
loop-left-preserved g c =
    let k = c.loop-left.invariant.0 in
    let piece = c.min-piece.result in
    let few : piece ≤ 1024 = search rules in
    let size : length (take piece c.loop-left.skipped) ≡ piece =
    length-take-le piece c.loop-left.skipped (search rules) in (
      k + length (take piece c.loop-left.skipped),
      rw size (omega (arith, c.loop-left.invariant.1, c.min-piece.ensures)),
      (
        c.loop-left.invariant.2.0 ++ c.read_bytes.new.buf,
        bytes_more k (length (take piece c.loop-left.skipped)) c.loop-left.invariant.2.0 c.read_bytes.new.buf
            c.args.self.now c.loop-left.self c.read_bytes.new.self c.loop-left.invariant.2.1
            c.in_ok-read_bytes.ensures.reads,
      ),
    )

pub returns : goal.returns
returns g c =
    let K = byte_reader_source {E = g.row.E.Denot} g.R.Source.stream
    g.E.Endianness.order in
    let all : c.loop-left.invariant.0 ≡ c.args.bytes = omega (arith, c.loop-left-test.false, c.loop-left.invariant.1) in
    record {
      reads = bytes_skipped c.args.bytes (Ok c.loop-left.invariant.2.0) c.args.self.now c.loop-left.self
          (subst (λ n. ByteReads K (given_bytes n) c.args.self.now (Ok c.loop-left.invariant.2.0) c.loop-left.self) all
          c.loop-left.invariant.2.1);
    }
