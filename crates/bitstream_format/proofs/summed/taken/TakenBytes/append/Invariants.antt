use Rattle.std.proofs.Common.{◌++◌}
use Rattle.bitstream_format.proofs.summed.taken.TakenBytes.append.Given as goal

abbrev pub ghost-extend : goal.ghost-extend
ghost-extend a = a.self.now.list ++ a._bytes.now
