use Rattle.std.proofs.Common.{◌∙◌, ap}
use Rattle.std.specs.Prelude.{bit_xor}
use Rattle.bitstream_format.proofs.ChecksLemmas.{one-state}
use Rattle.bitstream_format.proofs.checksums.Crc32Checksum.number.Goals as goal

pub returns : goal.returns
returns c = λ bytes is. c.from.ensures ∙ ap (λ crc. bit_xor crc 0xFFFFFFFF) (one-state _ _ is)
