use Rattle.std.proofs.Common.{refl}
use Rattle.bitstream_order.specs.Refusal.{MayRefuseWrite}
use Rattle.bitstream_stream.specs.Writing.Writer.{writer_state, queue_sink}
use Rattle.bitstream_stream.proofs.Writing.BytesWritten.{pushes_align}
use Rattle.bitstream_stream.proofs.Writing.SinkLemmas.{inner}
use Rattle.bitstream_stream.proofs.write.writer.BitWriterBitWrite.byte_align.Goals as goal

pub returns : goal.returns
returns g c =
    let may = MayRefuseWrite g.W.Target.stream in
    let o = g.E.Endianness.order in
    record {
      writes = inner (writer_state g.W.Target.stream) (queue_sink may o) _ _ _ _
          (pushes_align may o _ _ _ _ refl c.args.self.now.few c.if-self.false c.push.ensures.pushes);
    }
