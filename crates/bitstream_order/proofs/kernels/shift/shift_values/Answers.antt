use Rattle.std.proofs.Common.{rules, arith, ◌≡◌, ◌+◌, ◌-◌, ◌<◌, [], length, refl, ap, sym, subst, ◌∙◌}
use Rattle.std.proofs.lemmas.Slice.{drop-put_mid}
use Rattle.bitstream_number.specs.Word.{bits}
use Rattle.bitstream_order.specs.Moving.Shift.{Shifts}
use Rattle.bitstream_order.proofs.Moving.PieceLemmas.{last_queue}
use Rattle.bitstream_order.proofs.Moving.ShiftLemmas.{shifts_none, shifts_as, shifts_part, shifts_word, drop_more}
use Rattle.bitstream_order.proofs.kernels.shift.shift_values.Goals as goal

pub loop-bytes-init : goal.loop-bytes-init
loop-bytes-init g c =
    let o = g.E.Endianness.order in
    let laws = g.met.U.UnsignedInteger in
    let size = g.U.Numeric.BITS_SIZE in
    let whole = g.met.U.Numeric.size_law in
    let least = g.met.U.Numeric.least_law in
    let few = c.requires.few in
    let queued = c.args.queued in
    let queue = c.args.queue in
    let byte : queue < 256 = c.ranges.queue.fits in
    let last = last_queue o size _ queued queue _ _ _ (omega (arith, few, whole, least)) c.requires.small
    c.BITS_SIZE.ensures (ap g.U.UnsignedInteger.value c.ZERO.ensures
    ∙ laws.ZERO_value_law) (laws.byte_law _ _ c.from_u8.ensures byte) c.put-before.ensures in
    record {
      shifts = subst (λ v. Shifts o queued queue [] [] v) (sym last) (shifts_none o queued queue);
      rest = refl;
      len = refl;
      within = omega arith;
    }

pub loop-bytes-preserved : goal.loop-bytes-preserved
loop-bytes-preserved g c =
    let o = g.E.Endianness.order in
    let at = c.loop-bytes.at in
    let size = c.BYTES-in-loop-bytes.result in
    let xs = c.loop-bytes.bytes in
    let part = c.copy_from_slice.new.self in
    let made = c.copy_from_slice-in-loop-bytes.new.self in
    let within = c.loop-bytes.invariant.within in
    let few = c.requires.few in
    let whole = g.met.U.Numeric.size_law in
    let least = g.met.U.Numeric.least_law in
    let step : at + size - at ≡ size = omega arith in
    let len : length made ≡ size = ap length (c.copy_from_slice-in-loop-bytes.ensures.after ∙ c.as_bytes.ensures)
    ∙ c.to_bytes-shifted.ensures.len ∙ sym c.BYTES-in-loop-bytes.ensures in
    let was = c.of_bytes-value.ensures.word ∙ ap (bits o) (g.met.U.Bytes.Buffer.items_law part) in
    let is = sym c.to_bytes-shifted.ensures.bits ∙ ap (bits o) (sym (c.copy_from_slice-in-loop-bytes.ensures.after
    ∙ c.as_bytes.ensures)) in
    record {
      shifts = shifts_part o c.args.queued c.args.queue _ _ at size (at + size - at) c.args.bytes.now xs part made step
          within len c.loop-bytes.invariant.rest c.copy_from_slice.ensures.after
          c.loop-bytes.invariant.shifts (shifts_as o c.args.queued _ _ _ _ _ _ was is
          (shifts_word o _ c.args.queued _ _ _ (omega (arith, few, whole, least)) c.shift_in.ensures));
      rest = drop-put_mid at (at + size - at) xs made (at + size) (omega arith) within (len ∙ sym step)
          ∙ drop_more at size xs c.args.bytes.now c.loop-bytes.invariant.rest;
      len = search rules;
      within = search rules;
    }
