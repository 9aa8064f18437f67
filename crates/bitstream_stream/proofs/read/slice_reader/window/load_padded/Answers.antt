use Rattle.std.proofs.Common.{arith}
use Rattle.bitstream_stream.proofs.Reading.MemoryWindows.{padded_window}
use Rattle.bitstream_stream.proofs.read.slice_reader.window.load_padded.Goals as goal

pub returns : goal.returns
returns g c =
    padded_window g.E.Endianness.order c.args.bytes.now _ _ c.of_bytes.result (omega (arith, c.requires))
    c.of_bytes.ensures.word c.copy_from_slice.ensures.after
