use Rattle.bitstream_format.proofs.ChecksLemmas.{count-taken}
use Rattle.bitstream_format.proofs.checksums.ByteCountChecksum.take.Goals as goal

pub returns : goal.returns
returns c = λ before is. count-taken _ _ before _ is c.saturating_add-self.ensures
