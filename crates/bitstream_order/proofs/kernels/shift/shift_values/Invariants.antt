use Rattle.std.proofs.Common.{◌≡◌, ◌-◌, ◌≤◌, length, take, drop}
use Rattle.bitstream_number.specs.Word.{bits}
use Rattle.bitstream_order.specs.Parts.{piece}
use Rattle.bitstream_order.specs.Moving.Shift.{Shifts}
use Rattle.bitstream_order.proofs.kernels.shift.shift_values.Given as goal

-- the bytes before a position are shifted, the bytes after it are unchanged, and the last bits of a value are left
abbrev pub invariant-loop-bytes : goal.invariant-loop-bytes
invariant-loop-bytes g l =
    let size = g.U.Numeric.BITS_SIZE in
    let left = piece g.E.Endianness.order size (g.U.UnsignedInteger.value l.before) (size - l.queued) l.queued in
    record {
      shifts : Shifts g.E.Endianness.order l.queued l.queue (bits g.E.Endianness.order (take l.at l.initial.bytes))
          (bits g.E.Endianness.order (take l.at l.bytes)) left;
      rest : drop l.at l.bytes ≡ drop l.at l.initial.bytes;
      len : length l.bytes ≡ length l.initial.bytes;
      within : l.at ≤ length l.bytes;
    }

abbrev pub decreases-loop-bytes : goal.decreases-loop-bytes
decreases-loop-bytes g l = length l.bytes - l.at
