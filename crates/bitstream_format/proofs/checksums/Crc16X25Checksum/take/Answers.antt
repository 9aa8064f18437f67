use Rattle.bitstream_format.specs.Checks.{low_step}
use Rattle.bitstream_format.proofs.ChecksLemmas.{over-taken}
use Rattle.bitstream_format.proofs.checksums.Crc16X25Checksum.take.Goals as goal

pub returns : goal.returns
returns c = λ before is. over-taken (low_step 0x8408) 1 0xFFFF _ _ before _ is c.crc16_low_more-self.ensures
