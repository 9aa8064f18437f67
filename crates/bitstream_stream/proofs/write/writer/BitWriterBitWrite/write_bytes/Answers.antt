use Rattle.std.proofs.Common.{refl}
use Rattle.bitstream_order.specs.Refusal.{MayRefuseWrite}
use Rattle.bitstream_stream.specs.Writing.Writer.{writer_state, queue_sink, writer_sink}
use Rattle.bitstream_stream.proofs.Writing.SinkLemmas.{inner, fails}
use Rattle.bitstream_stream.proofs.Writing.WriterLemmas.{pushes_writes}
use Rattle.bitstream_stream.proofs.write.writer.BitWriterBitWrite.write_bytes.Goals as goal

pub returns-then-self-clause-writes : goal.returns-then-self-clause-writes
returns-then-self-clause-writes g c = fails (writer_sink g.W.Target.stream g.E.Endianness.order) _ _ _ c.if-self.true refl

pub returns-clause-writes : goal.returns-clause-writes
returns-clause-writes g c =
    let o = g.E.Endianness.order in
    inner (writer_state g.W.Target.stream)
    (queue_sink (MayRefuseWrite g.W.Target.stream) o) _ _ _ _
    (pushes_writes _ o _ _ _ _ _ c.if-self.false refl c.push_bytes.ensures.pushes)
