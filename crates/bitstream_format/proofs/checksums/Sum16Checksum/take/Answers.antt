use Rattle.std.proofs.Common.{refl}
use Rattle.bitstream_format.proofs.ChecksLemmas.{sum-taken}
use Rattle.bitstream_format.proofs.checksums.Sum16Checksum.take.Goals as goal

pub returns : goal.returns
returns c = λ before is. sum-taken _ _ _ _ before _ is c.sum16_more-self.ensures refl
