use Rattle.bitstream_vectors.proofs.reads.read_const_in.Goals as goal

pub read_const-requires : goal.read_const-requires
read_const-requires g c = record { word = c.requires.word; value = c.requires.value }
