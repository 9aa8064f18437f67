use Rattle.std.proofs.Common.{arith, ◌≡◌, ◌+◌, ◌*◌, ◌%◌, Ok, refl, sym, ap}
use Rattle.std.specs.Prelude.{◌==◌}
use Rattle.bitstream_count.specs.Unary.{unary}
use Rattle.bitstream_order.specs.Refusal.{MayRefuseWrite}
use Rattle.bitstream_stream.specs.Writing.Writer.{writer_state, queue_sink}
use Rattle.bitstream_stream.proofs.Writing.BytesWritten.{appended_none}
use Rattle.bitstream_stream.proofs.Writing.SinkLemmas.{inner}
use Rattle.bitstream_stream.proofs.Writing.WriterLemmas.{pushes_writes}
use Rattle.bitstream_stream.proofs.Writing.UnaryWrites.{lead_word, others-behind, others-stop, lead-behind}
use Rattle.bitstream_stream.proofs.write.writer.BitWriterBitWrite.write_unary.Goals as goal

pub loop-done-init : goal.loop-done-init
loop-done-init g c = record {
  wrote = appended_none (queue_sink (MayRefuseWrite g.W.Target.stream) g.E.Endianness.order) _
      c.if-self.false;
  none = λ _. refl;
}

pub returns-in_err-push-clause-writes : goal.returns-in_err-push-clause-writes
returns-in_err-push-clause-writes g c =
    let may = MayRefuseWrite g.W.Target.stream in
    let o = g.E.Endianness.order in
    let stop = c.BITS-stop.result == 1 in
    let n = c.args.value in
    inner (writer_state g.W.Target.stream) (queue_sink may o) _ _ _ _
    (pushes_writes may o (unary stop n) _ _ _ _ c.if-self.false
    (ap (λ k. Ok (unary (k == 1) n)) (sym c.BITS-stop.ensures))
    (others-stop may o stop (64 * c.loop-done._done) 64 n c.run_without_stop.result _ _ _ _ c.from_residual.result
    (omega (arith, c.loop-done-test.true)) c.run_without_stop.ensures.word c.from_residual.ensures.1
    c.loop-done.invariant.wrote c.in_err-push.ensures.pushes))

pub loop-done-preserved : goal.loop-done-preserved
loop-done-preserved g c =
    let may = MayRefuseWrite g.W.Target.stream in
    let stop = c.BITS-stop.result == 1 in
    let done = c.loop-done._done in
    record {
      wrote = others-behind may g.E.Endianness.order stop (64 * done) 64 (64 * (done + 1)) c.run_without_stop.result _ _ _
          (omega arith) c.run_without_stop.ensures.word c.loop-done.invariant.wrote c.in_ok-push.ensures.pushes;
      none = λ first. absurd (omega (arith, first));
    }

pub returns-clause-writes : goal.returns-clause-writes
returns-clause-writes g c =
    let may = MayRefuseWrite g.W.Target.stream in
    let o = g.E.Endianness.order in
    let stop = c.BITS-stop.result == 1 in
    let n = c.args.value in
    let last = n % 64 in
    let sum : 64 * c.loop-done._done + last ≡ n = omega (arith, c.loop-done.auto._done-end, c.loop-done-test.false) in
    inner (writer_state g.W.Target.stream) (queue_sink may o) _ _ _ _
    (pushes_writes may o (unary stop n) _ _ _ _ c.if-self.false
    (ap (λ k. Ok (unary (k == 1) n)) (sym c.BITS-stop.ensures))
    (lead-behind may o stop (64 * c.loop-done._done) last n c.put.result _ _ _ c.push-2.result sum
    (lead_word stop o last c.run_without_stop-2.result c.from.result c.put.result c.run_without_stop-2.ensures.below c.run_without_stop-2.ensures.word
    c.from.ensures c.put.ensures) c.loop-done.invariant.wrote c.push-2.ensures.pushes))
