use Rattle.bitstream_stream.proofs.Writing.VbrWrites.{GroupsCounted}
use Rattle.bitstream_stream.proofs.vbr.vbr_bits.Given as goal

-- the groups below `rest`, and one more, are counted
abbrev pub invariant-loop-bits : goal.invariant-loop-bits
invariant-loop-bits g l =
    let value = g.U.UnsignedInteger.value in
    GroupsCounted g.F.Width.BITS (value l.fn.value) l.bits (value l.rest)

abbrev pub decreases-loop-bits : goal.decreases-loop-bits
decreases-loop-bits g l = g.U.UnsignedInteger.value l.rest
