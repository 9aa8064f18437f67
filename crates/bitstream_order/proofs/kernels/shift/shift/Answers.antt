use Rattle.std.proofs.Common.{refl}
use Rattle.bitstream_order.proofs.Moving.ShiftLemmas.{shifts_rest}
use Rattle.bitstream_order.proofs.kernels.shift.shift.Goals as goal

pub returns-clause-shifts : goal.returns-clause-shifts
returns-clause-shifts g c =
    let first = c.shift_values-at.ensures in
    let second = c.shift_values.ensures in
    shifts_rest g.E.Endianness.order c.args.queued c.args.queue c.shift_values-at.result.1 _ c.shift_values-at.result.0
    c.shift_values.result.0 _ c.args.bytes.now c.shift_values-at.new.bytes _ c.shift_values.new.bytes refl
    first.within first.len first.rest refl
    second.within second.most second.len first.shifts second.shifts
