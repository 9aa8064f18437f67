use Rattle.bitstream_format.proofs.summed.taken.TakenBytes.extend.Given as goal

abbrev pub ghost-set : goal.ghost-set
ghost-set g a = g.by
