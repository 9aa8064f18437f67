use Rattle.std.proofs.Common.{take, Ok}
use Rattle.bitstream_stream.specs.WholeBytes.ByteReads.{ByteReads, given_bytes}
use Rattle.bitstream_stream.proofs.bytes.byte_read.ByteRead.read_bytes.Given as goal

-- the bytes before place i were read
abbrev pub invariant-loop-i : goal.invariant-loop-i
invariant-loop-i g l = ByteReads g.Self.ByteRead.source (given_bytes l.i) l.initial.self (Ok (take l.i l.buf)) l.self
