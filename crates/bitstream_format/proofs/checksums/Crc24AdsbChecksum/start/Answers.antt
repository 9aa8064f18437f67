use Rattle.bitstream_format.specs.Checks.{high_step}
use Rattle.bitstream_format.proofs.ChecksLemmas.{over-started}
use Rattle.bitstream_format.proofs.checksums.Crc24AdsbChecksum.start.Goals as goal

pub returns : goal.returns
returns c = over-started (high_step 0x80000000 0xFFF40900) 0x1000000 0
