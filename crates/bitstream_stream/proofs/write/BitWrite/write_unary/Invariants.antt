use Rattle.std.proofs.Common.{◌+◌, ◌*◌, ◌%◌, not, replicate}
use Rattle.bitstream_stream.specs.Writing.Sink.{IsWithin}
use Rattle.bitstream_stream.proofs.Writing.SinkParts.{Begun}
use Rattle.bitstream_stream.proofs.write.BitWrite.write_unary.Given as goal

-- the bits beyond whole groups of 128 were written, and then one group an iteration; all of them have room
abbrev pub invariant-loop-done : goal.invariant-loop-done
invariant-loop-done g l =
    let K = g.Self.BitWrite.sink in
    record {
      begun : Begun K l.fn.self (replicate (l.value % 128 + 128 * l._done) (not l.stop)) l.self;
      room : IsWithin K.limit (K.len l.fn.self + (l.value + 1));
    }
