use Rattle.std.proofs.Common.{rules, ◌≡◌, ◌+◌, ◌*◌, ◌≤◌, take, length, Ok, refl, subst, arith, length-take-le}
use Rattle.bitstream_stream.specs.Reading.Reads.{Reads}
use Rattle.bitstream_stream.specs.Reading.Reader.{reader_source}
use Rattle.bitstream_stream.specs.Reading.ReadTable.{skip_decoder}
use Rattle.bitstream_stream.proofs.Reading.BytesLemmas.{skips-failed, skips-none, skips-bytes, skips-bytes-stop, stops}
use Rattle.bitstream_stream.proofs.read.reader.BitReader.skip_bytes.Goals as goal

pub returns-then-self : goal.returns-then-self
returns-then-self g c = skips-failed _ _ c.if-self.true

pub loop-left-init : goal.loop-left-init
loop-left-init g c = (0, omega arith, skips-none _ c.if-self.false)

pub returns-in_err-fill : goal.returns-in_err-fill
returns-in_err-fill g c =
    let piece = c.min-piece.result in
    let few : piece ≤ 1024 = search rules in
    let size : length (take piece c.loop-left.skipped) ≡ piece =
    length-take-le piece c.loop-left.skipped (search rules) in
    stops c.from_residual.result c.from_residual.ensures.1
    (skips-bytes-stop g.E.Endianness.order c.loop-left.invariant.0 _ c.args.bytes _ _ _ _
    (rw size (omega (arith, c.loop-left.invariant.1, c.min-piece.ensures))) c.loop-left.invariant.2
    c.in_err-fill.ensures.reads)

pub loop-left-preserved : goal.loop-left-preserved
loop-left-preserved g c =
    let k = c.loop-left.invariant.0 in
    let piece = c.min-piece.result in
    let few : piece ≤ 1024 = search rules in
    let size : length (take piece c.loop-left.skipped) ≡ piece =
    length-take-le piece c.loop-left.skipped (search rules) in (
      k + piece,
      omega (arith, c.loop-left.invariant.1, c.min-piece.ensures),
      skips-bytes g.E.Endianness.order k _ (k + piece) _ _ _ _ (rw size refl) c.loop-left.invariant.2
          c.in_ok-fill.ensures.reads,
    )

pub returns : goal.returns
returns g c =
    let K = reader_source {E = g.row.E.Denot} g.R.Source.stream
    g.E.Endianness.order in
    let all : c.loop-left.invariant.0 ≡ c.args.bytes = omega (arith, c.loop-left-test.false, c.loop-left.invariant.1) in
    subst (λ n. Reads K (skip_decoder (8 * n)) c.args.self.now (Ok tt) c.loop-left.self) all c.loop-left.invariant.2
