use Rattle.std.proofs.Common.{◌≡◌, ◌*◌, not, replicate}
use Rattle.bitstream_order.specs.Refusal.{MayRefuseWrite}
use Rattle.bitstream_stream.specs.Writing.Sink.{Appended}
use Rattle.bitstream_stream.specs.Writing.Writer.{writer_state, queue_sink}
use Rattle.bitstream_stream.proofs.write.writer.BitWriterBitWrite.write_unary.Given as goal

-- 64 bits a turn were written, none of which is the stop bit
abbrev pub invariant-loop-done : goal.invariant-loop-done
invariant-loop-done g l =
    let K = queue_sink (MayRefuseWrite g.W.Target.stream) g.E.Endianness.order in
    record {
      wrote : Appended K (writer_state g.W.Target.stream l.fn.self)
          (replicate (64 * l._done) (not l.stop)) (writer_state g.W.Target.stream l.self);
      none : l._done ≡ 0 → l.self ≡ l.fn.self;
    }
