use Rattle.bitstream_format.specs.Checks.{high_step}
use Rattle.bitstream_format.proofs.ChecksLemmas.{over-taken}
use Rattle.bitstream_format.proofs.checksums.Crc32MpegChecksum.take.Goals as goal

pub returns : goal.returns
returns c = λ before is. over-taken (high_step 0x80000000 0x04C11DB7) 0x1000000 0xFFFFFFFF _ _ before _ is c.crc32_mpeg_more-self.ensures
