use Rattle.std.proofs.Common.{arith}
use Rattle.flac_codec.proofs.ChecksumLemmas.{remainder8-is}
use Rattle.flac_codec.proofs.checksum.remainder8.Goals as goal

pub returns : goal.returns
returns c = remainder8-is c.args.byte (omega arith)
