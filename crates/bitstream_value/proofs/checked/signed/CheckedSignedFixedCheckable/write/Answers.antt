use Rattle.std.proofs.Common.{refl, ap, ◌∙◌}
use Rattle.bitstream_value.proofs.CheckedLemmas.{writes-held_signed}
use Rattle.bitstream_value.proofs.checked.signed.CheckedSignedFixedCheckable.write.Goals as goal

pub returns : goal.returns
returns g c =
    let parts = c.into_count_value-value.ensures in
    record {
      writes = writes-held_signed g.W.BitWrite.sink _ _ c.bits.ensures.some (c.bits.ensures.value
          ∙ c.from.ensures) refl (ap g.S.Numeric.integer parts.value) parts.holds c.write_signed_var.ensures.writes;
    }
