use Rattle.std.proofs.Common.{refl, ap}
use Rattle.bitstream_value.proofs.CheckedLemmas.{writes-held}
use Rattle.bitstream_value.proofs.checked.unsigned.CheckedUnsignedFixedCheckable.write.Goals as goal

pub returns : goal.returns
returns g c =
    let kept = c.into_value.ensures in
    record {
      writes = writes-held g.W.BitWrite.sink _ _ refl refl (ap g.U.UnsignedInteger.value kept.value) kept.holds
          c.write_unsigned_var.ensures.writes;
    }
