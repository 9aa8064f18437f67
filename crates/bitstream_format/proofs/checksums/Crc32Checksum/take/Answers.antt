use Rattle.bitstream_format.specs.Checks.{low_step}
use Rattle.bitstream_format.proofs.ChecksLemmas.{over-taken}
use Rattle.bitstream_format.proofs.checksums.Crc32Checksum.take.Goals as goal

pub returns : goal.returns
returns c = λ before is. over-taken (low_step 0xEDB88320) 1 0xFFFFFFFF _ _ before _ is c.crc32_more-self.ensures
