use Rattle.std.proofs.Common.{◌≡◌, length, take, Ok}
use Rattle.bitstream_stream.specs.Reading.Reads.{Reads}
use Rattle.bitstream_stream.specs.Reading.ReadTable.{bytes_decoder}
use Rattle.bitstream_stream.proofs.read.BitRead.read_bytes.Given as goal

-- the bytes up to a place were read
abbrev pub invariant-loop-at : goal.invariant-loop-at
invariant-loop-at g l = record {
  len : length l.buf ≡ length l.initial.buf;
  reads : Reads g.Self.BitRead.source (bytes_decoder g.Self.BitRead.source.order l.at) l.fn.self (Ok (take l.at l.buf))
      l.self;
}
