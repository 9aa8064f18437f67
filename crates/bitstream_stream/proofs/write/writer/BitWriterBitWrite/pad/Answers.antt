use Rattle.std.proofs.Common.{◌+◌, ◌-◌, ◌*◌, ◌/◌, ◌%◌, Ok, Err, refl, arith}
use Rattle.bitstream_order.specs.Refusal.{MayRefuseWrite}
use Rattle.bitstream_stream.specs.Writing.Writer.{writer_state, queue_sink}
use Rattle.bitstream_stream.proofs.Writing.BytesWritten.{pushes_zeros, zeros-behind, zeros-stop}
use Rattle.bitstream_stream.proofs.Writing.SinkLemmas.{inner}
use Rattle.bitstream_stream.proofs.Writing.WriterLemmas.{pushes_writes}
use Rattle.bitstream_stream.proofs.write.writer.BitWriterBitWrite.pad.Goals as goal

pub returns-then-bits-le128 : goal.returns-then-bits-le128
returns-then-bits-le128 g c =
    let may = MayRefuseWrite g.W.Target.stream in
    let o = g.E.Endianness.order in
    record {
      writes = inner (writer_state g.W.Target.stream) (queue_sink may o) _ _ _ _
          (pushes_writes may o _ _ _ _ _ c.if-self.false refl
          (pushes_zeros may o c.args.bits _ _ _ c.push.ensures.pushes));
    }

pub returns-in_err-push : goal.returns-in_err-push
returns-in_err-push g c =
    let may = MayRefuseWrite g.W.Target.stream in
    let o = g.E.Endianness.order in
    let first = (8 - c.args.self.now.queued) % 8 in
    record {
      writes = inner (writer_state g.W.Target.stream) (queue_sink may o) _ _ _ _
          (pushes_writes may o _ _ _ _ _ c.if-self.false refl
          (zeros-stop may o first c.args.bits _ _ _ c.from_residual.result c.from_residual.ensures.1
          (omega (arith, c.if-bits-le128.false, c.args.self.now.few))
          (pushes_zeros may o first _ (Err _) _ c.in_err-push.ensures.pushes)));
    }

pub returns-in_err-push_zeros : goal.returns-in_err-push_zeros
returns-in_err-push_zeros g c =
    let may = MayRefuseWrite g.W.Target.stream in
    let o = g.E.Endianness.order in
    let first = (8 - c.args.self.now.queued) % 8 in
    let whole = 8 * ((c.args.bits - first) / 8) in
    record {
      writes = inner (writer_state g.W.Target.stream) (queue_sink may o) _ _ _ _
          (pushes_writes may o _ _ _ _ _ c.if-self.false refl
          (zeros-stop may o (first + whole) c.args.bits _ _ _ c.from_residual-in_err-push_zeros.result
          c.from_residual-in_err-push_zeros.ensures.1 (omega (arith, c.if-bits-le128.false, c.args.self.now.few))
          (zeros-behind may o first whole (first + whole) _ _ _ (Err _) refl
          (pushes_zeros may o first _ (Ok tt) _ c.in_ok-push.ensures.pushes) c.in_err-push_zeros.ensures)));
    }

pub returns : goal.returns
returns g c =
    let may = MayRefuseWrite g.W.Target.stream in
    let o = g.E.Endianness.order in
    let long = c.if-bits-le128.false in
    let first = (8 - c.args.self.now.queued) % 8 in
    let whole = 8 * ((c.args.bits - first) / 8) in
    let last = (c.args.bits - first) % 8 in
    record {
      writes = inner (writer_state g.W.Target.stream) (queue_sink may o) _ _ _ _
          (pushes_writes may o _ _ _ _ _ c.if-self.false refl
          (zeros-behind may o (first + whole) last c.args.bits _ _ _ _ (omega (arith, c.args.self.now.few))
          (zeros-behind may o first whole (first + whole) _ _ _ (Ok tt) refl
          (pushes_zeros may o first _ (Ok tt) _ c.in_ok-push.ensures.pushes) c.in_ok-push_zeros.ensures)
          (pushes_zeros may o last _ _ _ c.push-3.ensures.pushes)));
    }
