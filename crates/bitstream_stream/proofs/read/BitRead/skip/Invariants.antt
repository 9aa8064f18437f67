use Rattle.std.proofs.Common.{◌+◌, ◌*◌, ◌%◌, Ok}
use Rattle.bitstream_stream.specs.Reading.Reads.{Reads}
use Rattle.bitstream_stream.specs.Reading.ReadTable.{skip_decoder}
use Rattle.bitstream_stream.proofs.read.BitRead.skip.Given as goal

-- the bits beyond whole groups of 128 were read, and then one group an iteration
abbrev pub invariant-loop-done : goal.invariant-loop-done
invariant-loop-done g l = Reads g.Self.BitRead.source (skip_decoder (l.bits % 128 + 128 * l._done)) l.fn.self (Ok tt)
    l.self
