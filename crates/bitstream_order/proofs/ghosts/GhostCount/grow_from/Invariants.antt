use Rattle.bitstream_order.proofs.ghosts.GhostCount.grow_from.Given as goal

abbrev pub ghost-grow : goal.ghost-grow
ghost-grow g a = g.by
