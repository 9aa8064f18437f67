use Rattle.std.proofs.Common.{◌*◌}
use Rattle.bitstream_order.proofs.ghosts.GhostCount.add_bytes.Given as goal

abbrev pub ghost-grow : goal.ghost-grow
ghost-grow a = 8 * a._n
