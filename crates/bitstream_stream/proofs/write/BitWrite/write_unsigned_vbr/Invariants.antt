use Rattle.std.proofs.Common.{◌+◌, length}
use Rattle.bitstream_count.specs.Vbr.{vbr_word}
use Rattle.bitstream_stream.specs.Writing.Sink.{IsWithin}
use Rattle.bitstream_stream.proofs.Writing.VbrWrites.{GroupsBegun}
use Rattle.bitstream_stream.proofs.write.BitWrite.write_unsigned_vbr.Given as goal

-- the first groups were written, and there is room for all
abbrev pub invariant-loop-group : goal.invariant-loop-group
invariant-loop-group g l =
    let K = g.Self.BitWrite.sink in
    let u = g.U.UnsignedInteger in
    let field = g.F.Width.BITS in
    let v = u.value l.fn.value in
    record {
      groups : GroupsBegun K field v l.fn.self (u.value l.rest) l.self;
      room : IsWithin K.limit (K.len l.fn.self + length (vbr_word K.order field v));
    }

abbrev pub decreases-loop-group : goal.decreases-loop-group
decreases-loop-group g l = g.U.UnsignedInteger.value l.rest
