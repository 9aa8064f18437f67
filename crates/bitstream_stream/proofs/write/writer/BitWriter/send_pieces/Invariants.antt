use Rattle.std.proofs.Common.{◌≡◌, ◌+◌, ◌-◌, ◌≤◌, ℕ, length, take}
use Rattle.bitstream_number.specs.Word.{bits}
use Rattle.bitstream_order.specs.Refusal.{MayRefuseWrite}
use Rattle.bitstream_stream.specs.Writing.Sink.{Appended}
use Rattle.bitstream_stream.specs.Writing.Writer.{writer_state, queue_sink, queued_bits, requests_made}
use Rattle.bitstream_stream.proofs.PieceCounts.{Reaches}
use Rattle.bitstream_stream.proofs.write.writer.BitWriter.send_pieces.Given as goal

-- the bytes up to a place were written, in k pieces
abbrev pub invariant-loop-at : goal.invariant-loop-at
invariant-loop-at g l =
    let o = g.E.Endianness.order in
    (k : ℕ) × record {
      within : l.at ≤ length l.bytes;
      written : Appended (queue_sink (MayRefuseWrite g.W.Target.stream) o)
          (writer_state g.W.Target.stream l.initial.self) (bits o (take l.at l.bytes))
          (writer_state g.W.Target.stream l.self);
      queued : queued_bits l.self ≡ queued_bits l.initial.self;
      requests : requests_made l.self ≡ requests_made l.initial.self + k;
      reaches : Reaches g.row.N k l.at (length l.bytes);
    }

abbrev pub decreases-loop-at : goal.decreases-loop-at
decreases-loop-at g l = length l.bytes - l.at
