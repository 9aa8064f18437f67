use Rattle.bitstream_vectors.proofs.writes.write_const_in.Goals as goal

pub write_const-requires : goal.write_const-requires
write_const-requires g c = record { word = c.requires.word; value = c.requires.value }
