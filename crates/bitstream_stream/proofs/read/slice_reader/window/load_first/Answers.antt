use Rattle.bitstream_stream.proofs.Reading.MemoryWindows.{first_window}
use Rattle.bitstream_stream.proofs.read.slice_reader.window.load_first.Goals as goal

pub returns : goal.returns
returns g c =
    first_window g.E.Endianness.order c.args.bytes.now _ _ _ c.of_bytes.result c.requires.there c.of_bytes.ensures.word
    c.copy_from_slice.ensures.after
