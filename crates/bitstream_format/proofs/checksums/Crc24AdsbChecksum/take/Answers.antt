use Rattle.bitstream_format.specs.Checks.{high_step}
use Rattle.bitstream_format.proofs.ChecksLemmas.{over-taken}
use Rattle.bitstream_format.proofs.checksums.Crc24AdsbChecksum.take.Goals as goal

pub returns : goal.returns
returns c = λ before is. over-taken (high_step 0x80000000 0xFFF40900) 0x1000000 0 _ _ before _ is c.crc24_more-self.ensures
