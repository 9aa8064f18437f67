use Rattle.std.proofs.Common.{arith}
use Rattle.flac_codec.proofs.ChecksumLemmas.{remainder16-is}
use Rattle.flac_codec.proofs.checksum.remainder16.Goals as goal

pub returns : goal.returns
returns c = remainder16-is c.args.byte (omega arith)
