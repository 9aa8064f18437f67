use Rattle.std.proofs.Common.{take, [], sym, append-nil, ◌∙◌}
use Rattle.bitstream_stream.proofs.Reading.MemoryWindows.{prefix_window}
use Rattle.bitstream_stream.proofs.read.slice_reader.window.load_eight.Goals as goal

pub returns : goal.returns
returns g c =
    let bytes = take 8 c.args.bytes.now in
    let after = c.copy_from_slice.ensures.after in
    let word = c.of_bytes.ensures.word in
    prefix_window g.E.Endianness.order bytes _ [] c.of_bytes.result word (after ∙ sym (append-nil (take 8 c.args.bytes.now)))
