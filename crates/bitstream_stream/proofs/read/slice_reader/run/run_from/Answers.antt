use Rattle.std.proofs.Common.{arith, drop, ◌≡◌, ap}
use Rattle.bitstream_count.specs.Unary.{lead}
use Rattle.bitstream_number.specs.Word.{bits}
use Rattle.std.proofs.lemmas.List.{drop_all}
use Rattle.bitstream_stream.proofs.Reading.MemoryRuns.{byte_ends, byte_passes}
use Rattle.bitstream_stream.proofs.read.slice_reader.run.run_from.Goals as goal

pub returns-then-lead-lt8 : goal.returns-then-lead-lt8
returns-then-lead-lt8 g c =
    let ends = byte_ends g.E.Endianness.order c.args.stop c.args.bytes.now c.loop-at.at _ (omega arith)
    c.run_length-lead.ensures c.if-lead-lt8.true in
    omega (arith, ends, c.loop-at.invariant.run)

pub loop-at-preserved : goal.loop-at-preserved
loop-at-preserved g c =
    let passes = byte_passes g.E.Endianness.order c.args.stop c.args.bytes.now c.loop-at.at _ (omega arith)
    c.run_length-lead.ensures (omega arith) in
    record {
      within = omega arith;
      run = omega (arith, passes, c.loop-at.invariant.run);
      most = omega (arith, c.loop-at.invariant.most);
    }

pub returns : goal.returns
returns g c =
    let none = drop_all c.loop-at.at c.args.bytes.now c.loop-at-test.false in
    let zero : lead c.args.stop (bits g.E.Endianness.order (drop c.loop-at.at c.args.bytes.now)) ≡ 0 =
    ap (λ xs. lead c.args.stop (bits g.E.Endianness.order xs)) none in
    omega (arith, zero, c.loop-at.invariant.run)
