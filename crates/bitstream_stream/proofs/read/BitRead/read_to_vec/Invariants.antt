use Rattle.std.proofs.Common.{◌≡◌, ◌-◌, ◌≤◌, length, Ok}
use Rattle.bitstream_stream.specs.Reading.Reads.{Reads}
use Rattle.bitstream_stream.specs.Reading.ReadTable.{bytes_decoder}
use Rattle.bitstream_stream.proofs.read.BitRead.read_to_vec.Given as goal

-- the bytes of the buffer were read
abbrev pub invariant-loop-at : goal.invariant-loop-at
invariant-loop-at g l = record {
  len : length l.buf.items ≡ l.at;
  within : l.at ≤ l.bytes;
  reads : Reads g.Self.BitRead.source (bytes_decoder g.Self.BitRead.source.order l.at) l.fn.self (Ok l.buf.items) l.self;
}

abbrev pub decreases-loop-at : goal.decreases-loop-at
decreases-loop-at g l = l.bytes - l.at
