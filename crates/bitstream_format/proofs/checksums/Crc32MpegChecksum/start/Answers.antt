use Rattle.bitstream_format.specs.Checks.{high_step}
use Rattle.bitstream_format.proofs.ChecksLemmas.{over-started}
use Rattle.bitstream_format.proofs.checksums.Crc32MpegChecksum.start.Goals as goal

pub returns : goal.returns
returns c = over-started (high_step 0x80000000 0x04C11DB7) 0x1000000 0xFFFFFFFF
