use Rattle.std.proofs.Common.{◌*◌, length, take}
use Rattle.bitstream_io.specs.Callers.{bits}
use Rattle.bits_c.specs.Writer.{HasRoom, Wrote}
use Rattle.bits_c.proofs.writer.bytes.write_bytes.Given as goal

-- the bytes up to a place were written, and there is room for all
abbrev pub invariant-loop-byte : goal.invariant-loop-byte
invariant-loop-byte g l = record {
  room : HasRoom l.fn.writer (8 * length l.bytes);
  wrote : Wrote g.O.Endianness.order (bits g.O.Endianness.order (take l.byte-index l.bytes)) l.fn.writer l.writer;
}
