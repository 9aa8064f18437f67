use Rattle.bitstream_order.specs.Refusal.{MayRefuseWrite}
use Rattle.bitstream_stream.specs.Writing.Writer.{writer_state, queue_sink}
use Rattle.bitstream_stream.proofs.Writing.SinkLemmas.{inner}
use Rattle.bitstream_stream.proofs.Writing.WriterLemmas.{pushes_bit}
use Rattle.bitstream_stream.proofs.write.writer.BitWriterBitWrite.write_bit.Goals as goal

pub returns-clause-writes : goal.returns-clause-writes
returns-clause-writes g c =
    let o = g.E.Endianness.order in
    inner (writer_state g.W.Target.stream)
    (queue_sink (MayRefuseWrite g.W.Target.stream) o) _ _ _ _
    (pushes_bit _ o c.args.bit _ _ _ _ c.from.ensures c.if-self.false c.push.ensures.pushes)
