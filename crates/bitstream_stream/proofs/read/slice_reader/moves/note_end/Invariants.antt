use Rattle.bitstream_stream.proofs.read.slice_reader.moves.note_end.Given as goal

abbrev pub ghost-push : goal.ghost-push
ghost-push g a = g.by
