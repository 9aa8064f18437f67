use Rattle.bitstream_order.proofs.ghosts.GhostCount.add.Given as goal

abbrev pub ghost-grow : goal.ghost-grow
ghost-grow a = a._n
