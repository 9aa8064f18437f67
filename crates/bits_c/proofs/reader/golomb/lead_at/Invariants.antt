use Rattle.std.proofs.Common.{◌≡◌, ◌+◌, ◌-◌, ◌≤◌, drop}
use Rattle.bitstream_io.specs.Callers.{bits}
use Rattle.bitstream_io.specs.Unary.{lead}
use Rattle.bits_c.proofs.reader.golomb.lead_at.Given as goal

-- no bit up to a place is the stop bit
abbrev pub invariant-loop-count : goal.invariant-loop-count
invariant-loop-count g l =
    let xs = bits g.O.Endianness.order l.bytes in
    record {
      most : l.count ≤ l.limit;
      none : lead l.stop (drop l.at xs) ≡ l.count + lead l.stop (drop (l.at + l.count) xs);
    }

abbrev pub decreases-loop-count : goal.decreases-loop-count
decreases-loop-count g l = l.limit - l.count
