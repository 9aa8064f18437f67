use Rattle.std.proofs.Common.{sym, ◌∙◌}
use Rattle.bitstream_number.proofs.WordLemmas.{length-word}
use Rattle.bitstream_value.proofs.checked.unsigned.CheckedUnsignedCheckable.written_bits.Goals as goal

pub returns : goal.returns
returns g c = record {
  bits = λ o. c.bits.ensures.value ∙ c.into_count_value-count.ensures.count
      ∙ sym (length-word o _ _);
}
