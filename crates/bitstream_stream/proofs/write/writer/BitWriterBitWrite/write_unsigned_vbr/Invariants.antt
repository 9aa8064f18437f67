use Rattle.std.proofs.Common.{◌+◌, ◌≤◌}
use Rattle.bitstream_order.specs.Refusal.{MayRefuseWrite}
use Rattle.bitstream_stream.specs.Writing.Writer.{writer_state, queue_sink}
use Rattle.bitstream_stream.proofs.Writing.VbrWrites.{GroupsGathered}
use Rattle.bitstream_stream.proofs.write.writer.BitWriterBitWrite.write_unsigned_vbr.Given as goal

-- the first groups were written or are gathered, and there is room to gather another
abbrev pub invariant-loop-group : goal.invariant-loop-group
invariant-loop-group g l =
    let target = g.W.Target in
    let state = writer_state target.stream in
    let u = g.U.UnsignedInteger in
    record {
      room : l.bits + g.F.Width.BITS ≤ g.U.Numeric.BITS_SIZE;
      groups : GroupsGathered (queue_sink (MayRefuseWrite target.stream) g.E.Endianness.order)
          g.F.Width.BITS (u.value l.fn.value) (state l.fn.self) (u.value l.rest) (state l.self) l.bits (u.value l.word);
    }

abbrev pub decreases-loop-group : goal.decreases-loop-group
decreases-loop-group g l = g.U.UnsignedInteger.value l.rest
