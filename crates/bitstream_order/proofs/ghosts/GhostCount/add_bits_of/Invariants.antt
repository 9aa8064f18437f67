use Rattle.std.proofs.Common.{◌*◌}
use Rattle.bitstream_order.proofs.ghosts.GhostCount.add_bits_of.Given as goal

abbrev pub ghost-grow_from : goal.ghost-grow_from
ghost-grow_from a = 8 * a._bytes.now.count
