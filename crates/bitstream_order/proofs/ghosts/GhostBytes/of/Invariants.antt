use Rattle.bitstream_order.proofs.ghosts.GhostBytes.of.Given as goal

abbrev pub ghost-set_to : goal.ghost-set_to
ghost-set_to a = a._bytes.now
