use Rattle.std.proofs.Common.{◌∙◌}
use Rattle.bitstream_format.proofs.ChecksLemmas.{one-state}
use Rattle.bitstream_format.proofs.checksums.Crc32MpegChecksum.number.Goals as goal

pub returns : goal.returns
returns c = λ bytes is. c.from.ensures ∙ one-state _ _ is
