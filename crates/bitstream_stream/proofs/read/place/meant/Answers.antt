use Rattle.std.proofs.Common.{rules}
use Rattle.bitstream_stream.proofs.read.place.meant.Goals as goal

pub returns-in-End : goal.returns-in-End
returns-in-End c = search rules
