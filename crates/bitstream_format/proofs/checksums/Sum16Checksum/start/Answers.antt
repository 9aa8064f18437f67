use Rattle.bitstream_format.proofs.ChecksLemmas.{sum-started}
use Rattle.bitstream_format.proofs.checksums.Sum16Checksum.start.Goals as goal

pub returns : goal.returns
returns c = sum-started
