use Rattle.std.proofs.Common.{refl, ap}
use Rattle.bitstream_value.proofs.CheckedLemmas.{writes-held}
use Rattle.bitstream_value.proofs.checked.unsigned.CheckedUnsignedCheckable.write.Goals as goal

pub returns : goal.returns
returns g c =
    let parts = c.into_count_value-count.ensures in
    record {
      writes = writes-held g.W.BitWrite.sink _ _ refl parts.count (ap g.U.UnsignedInteger.value parts.value)
          parts.holds c.write_unsigned_counted.ensures.writes;
    }
