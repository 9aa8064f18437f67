use Rattle.std.proofs.Common.{◌∙◌, ◌-◌, ap}
use Rattle.bitstream_format.proofs.ChecksLemmas.{first-state}
use Rattle.bitstream_format.proofs.checksums.Sum16Checksum.number.Goals as goal

pub returns : goal.returns
returns c = λ bytes is. c.from.ensures ∙ ap (λ sum. 65535 - sum) (first-state _ _ _ _ is)
