use Rattle.std.proofs.Common.{◌≡◌, ◌-◌, ◌≤◌, length, Ok}
use Rattle.bitstream_stream.specs.WholeBytes.ByteReads.{ByteReadsGrowing, given_bytes}
use Rattle.bitstream_stream.proofs.bytes.byte_read.ByteRead.read_to_vec.Given as goal

-- the bytes of the buffer were read
abbrev pub invariant-loop-at : goal.invariant-loop-at
invariant-loop-at g l = record {
  len : length l.buf.items ≡ l.at;
  within : l.at ≤ l.bytes;
  reads : ByteReadsGrowing g.Self.ByteRead.source (given_bytes l.at) l.initial.self (Ok l.buf.items) l.self;
}

abbrev pub decreases-loop-at : goal.decreases-loop-at
decreases-loop-at g l = l.bytes - l.at
