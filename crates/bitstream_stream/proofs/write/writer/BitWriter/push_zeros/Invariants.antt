use Rattle.std.proofs.Common.{◌≡◌, ◌+◌, ◌*◌, ℕ, replicate, false}
use Rattle.bitstream_order.specs.Refusal.{MayRefuseWrite}
use Rattle.bitstream_stream.specs.Writing.Sink.{Appended}
use Rattle.bitstream_stream.specs.Writing.Writer.{writer_state, queue_sink}
use Rattle.bitstream_stream.proofs.write.writer.BitWriter.push_zeros.Given as goal

-- k bytes so far, and the rest to come
abbrev pub invariant-loop-left : goal.invariant-loop-left
invariant-loop-left g l =
    let K = queue_sink (MayRefuseWrite g.W.Target.stream) g.E.Endianness.order in
    (k : ℕ) × (k + l.left ≡ l.bytes) × Appended K (writer_state g.W.Target.stream
    l.initial.self) (replicate (8 * k) false) (writer_state g.W.Target.stream l.self)

abbrev pub decreases-loop-left : goal.decreases-loop-left
decreases-loop-left g l = l.left
