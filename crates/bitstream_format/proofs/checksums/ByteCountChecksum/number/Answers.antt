use Rattle.bitstream_format.proofs.ChecksLemmas.{one-state}
use Rattle.bitstream_format.proofs.checksums.ByteCountChecksum.number.Goals as goal

pub returns : goal.returns
returns c = λ bytes is. one-state _ _ is
