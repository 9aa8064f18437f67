use Rattle.bitstream_stream.specs.Reading.Memory.{end_of}
use Rattle.bitstream_stream.proofs.read.slice_reader.SliceReader.refuse.Given as goal

abbrev pub ghost-note_end : goal.ghost-note_end
ghost-note_end g a = end_of a._left.now
