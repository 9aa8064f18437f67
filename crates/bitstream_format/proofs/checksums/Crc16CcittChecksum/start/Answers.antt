use Rattle.bitstream_format.specs.Checks.{high_step}
use Rattle.bitstream_format.proofs.ChecksLemmas.{over-started}
use Rattle.bitstream_format.proofs.checksums.Crc16CcittChecksum.start.Goals as goal

pub returns : goal.returns
returns c = over-started (high_step 0x8000 0x1021) 0x100 0xFFFF
