use Rattle.bitstream_order.specs.Refusal.{MayRefuseWrite}
use Rattle.std.proofs.Common.{refl}
use Rattle.bitstream_stream.specs.Writing.Writer.{writer_state, queue_sink, writer_sink}
use Rattle.bitstream_stream.proofs.Writing.SinkLemmas.{inner, fails, refuses}
use Rattle.bitstream_stream.proofs.Shared.{exit_is}
use Rattle.bitstream_stream.proofs.Writing.WriterLemmas.{pushes_writes}
use Rattle.bitstream_stream.proofs.write.writer.BitWriterBitWrite.write_unsigned_var.Goals as goal

pub returns-then-self-clause-writes : goal.returns-then-self-clause-writes
returns-then-self-clause-writes g c = fails (writer_sink g.W.Target.stream g.E.Endianness.order) _ _ _ c.if-self.true refl

pub returns-in_err-check-clause-writes : goal.returns-in_err-check-clause-writes
returns-in_err-check-clause-writes g c =
    refuses (writer_sink g.W.Target.stream g.E.Endianness.order) _ _ _ _
    c.if-self.false (c.in_err-check.ensures.refusal _ _) (exit_is _ c.from_residual.ensures.1)

pub returns-clause-writes : goal.returns-clause-writes
returns-clause-writes g c =
    let o = g.E.Endianness.order in
    inner (writer_state g.W.Target.stream)
    (queue_sink (MayRefuseWrite g.W.Target.stream) o) _ _ _ _
    (pushes_writes _ o _ _ _ _ _ c.if-self.false (c.in_ok-check.ensures.word _ _) c.push.ensures.pushes)

pub returns-clause-asks : goal.returns-clause-asks
returns-clause-asks g c = c.push.ensures.asks
