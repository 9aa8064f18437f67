use Rattle.std.proofs.Common.{◌+◌, ◌*◌, length, take}
use Rattle.bitstream_number.specs.Word.{bits}
use Rattle.bitstream_stream.specs.Writing.Sink.{IsWithin}
use Rattle.bitstream_stream.proofs.Writing.SinkParts.{Begun}
use Rattle.bitstream_stream.proofs.write.BitWrite.write_bytes.Given as goal

-- the bytes up to a place were written, and there is room for all
abbrev pub invariant-loop-byte : goal.invariant-loop-byte
invariant-loop-byte g l =
    let K = g.Self.BitWrite.sink in
    record {
      begun : Begun K l.fn.self (bits K.order (take l.byte-index l.bytes)) l.self;
      room : IsWithin K.limit (K.len l.fn.self + 8 * length l.bytes);
    }
