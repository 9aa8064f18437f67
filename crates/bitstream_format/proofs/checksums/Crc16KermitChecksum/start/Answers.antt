use Rattle.bitstream_format.specs.Checks.{low_step}
use Rattle.bitstream_format.proofs.ChecksLemmas.{over-started}
use Rattle.bitstream_format.proofs.checksums.Crc16KermitChecksum.start.Goals as goal

pub returns : goal.returns
returns c = over-started (low_step 0x8408) 1 0
