use Rattle.std.proofs.Common.{sym}
use Rattle.bitstream_number.proofs.WordLemmas.{length-word}
use Rattle.bitstream_value.proofs.checked.unsigned.CheckedUnsignedFixedCheckable.written_bits.Goals as goal

pub returns : goal.returns
returns g c = record { bits = λ o. sym (length-word o _ _) }
