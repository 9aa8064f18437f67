use Rattle.bitstream_order.proofs.ghosts.GhostBytes.set_to.Given as goal

abbrev pub ghost-set : goal.ghost-set
ghost-set g a = g.by
