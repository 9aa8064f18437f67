use Rattle.std.proofs.Common.{ap, arith, drop, length, take_all, ◌-◌, ◌∙◌}
use Rattle.std.proofs.lemmas.List.{length-drop}
use Rattle.bitstream_number.specs.Word.{word}
use Rattle.bitstream_stream.proofs.Reading.MemoryRuns.{window_passes}
use Rattle.bitstream_stream.proofs.read.slice_reader.run.bytes_without.Goals as goal

pub loop-at-preserved : goal.loop-at-preserved
loop-at-preserved g c =
    let o = g.E.Endianness.order in
    let all = take_all (length c.args.bytes.now - c.loop-at.at) (drop c.loop-at.at c.args.bytes.now)
    (omega (arith, length-drop c.loop-at.at c.args.bytes.now)) in
    let passes = window_passes o c.args.stop c.args.bytes.now c.loop-at.at c.load_eight.result (omega arith)
    (rw all at c.load_eight.ensures)
    (ap (λ v. word o 64 v) c.if-load_eight-without.true ∙ c.window_without-without.ensures) in
    record {
      within = omega arith;
      run = omega (arith, passes, c.loop-at.invariant.run);
    }
