use Rattle.std.proofs.Common.{◌≡◌, ◌-◌, ◌^◌, ◌<◌, false}
use Rattle.bitstream_stream.proofs.Reading.VbrReads.{Told}
use Rattle.bitstream_stream.proofs.read.BitRead.read_groups.Given as goal

-- what is still read is the rest of the call
abbrev pub invariant-loop-shift : goal.invariant-loop-shift
invariant-loop-shift g l =
    let K = g.Self.BitRead.source in
    let u = g.U.UnsignedInteger in
    let size = g.U.Numeric.BITS_SIZE in
    record {
      mask : u.value l.mask ≡ 2 ^ l.payload - 1;
      told : Told K l.fn.strict g.F.Width.BITS size (2 ^ size) l.fn.self (u.value l.value) l.shift l.self;
      below : u.value l.value < 2 ^ l.shift;
      sound : 0 < l.shift → (K.state l.self).failed ≡ false;
    }

abbrev pub decreases-loop-shift : goal.decreases-loop-shift
decreases-loop-shift g l = g.U.Numeric.BITS_SIZE - l.shift
