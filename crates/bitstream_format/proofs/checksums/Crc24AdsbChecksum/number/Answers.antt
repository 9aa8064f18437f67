use Rattle.std.proofs.Common.{◌∙◌, ap, ◌/◌}
use Rattle.bitstream_format.proofs.ChecksLemmas.{one-state}
use Rattle.bitstream_format.proofs.checksums.Crc24AdsbChecksum.number.Goals as goal

pub returns : goal.returns
returns c = λ bytes is. c.from.ensures ∙ ap (λ crc. crc / 256) (one-state _ _ is)
