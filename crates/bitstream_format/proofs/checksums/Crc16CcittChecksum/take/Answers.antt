use Rattle.bitstream_format.specs.Checks.{high_step}
use Rattle.bitstream_format.proofs.ChecksLemmas.{over-taken}
use Rattle.bitstream_format.proofs.checksums.Crc16CcittChecksum.take.Goals as goal

pub returns : goal.returns
returns c = λ before is. over-taken (high_step 0x8000 0x1021) 0x100 0xFFFF _ _ before _ is c.crc16_more-self.ensures
