use Rattle.std.proofs.Common.{arith, ◌+◌, ◌-◌, ◌*◌, ◌%◌, ℕ, pow_pos, ◌≡◌, ◌++◌, replicate, false, Ok, refl, sym, ap, ◌∙◌}
use Rattle.std.proofs.lemmas.List.{length-replicate}
use Rattle.bitstream_stream.specs.Writing.WriteTable.{zeros}
use Rattle.bitstream_stream.proofs.Writing.BytesWritten.{zeros-split, word-zeros}
use Rattle.bitstream_stream.proofs.Writing.SinkParts.{to_ok, probe_stops, probed, room_for, no_room_for, lead_more, lead_stops}
use Rattle.bitstream_stream.proofs.write.BitWrite.pad.Goals as goal

pub returns-in_err-write_unsigned_var : goal.returns-in_err-write_unsigned_var
returns-in_err-write_unsigned_var g c = record {
  writes =
      probe_stops g.Self.BitWrite.sink _ _ _ _ c.in_err-write_unsigned_var.ensures.writes c.from_residual.ensures.1;
}

pub returns-then-not-has_room : goal.returns-then-not-has_room
returns-then-not-has_room g c =
    record {
      writes = no_room_for g.Self.BitWrite.sink _ _ _ c.in_ok-write_unsigned_var.ensures.writes _ _ _ _
          c.if-not-has_room.true c.has_room.ensures.room.1 (length-replicate c.args.bits false) refl;
    }

pub returns-in_err-write_unsigned_var-2 : goal.returns-in_err-write_unsigned_var-2
returns-in_err-write_unsigned_var-2 g c =
    let K = g.Self.BitWrite.sink in
    let n = c.args.bits in
    let first = n % 128 in
    let probe = c.in_ok-write_unsigned_var.ensures.writes in
    record {
      writes = lead_stops K false K.order 128 0 first 0 (omega arith) (pow_pos first) (λ o. word-zeros o first)
          (probed K _ _ _ probe) (zeros n) (replicate n false) (replicate (n - first) false) n
          c.in_err-write_unsigned_var-2.ensures.writes c.from_residual-in_err-write_unsigned_var-2.ensures.1 refl
          (zeros-split first (n - first) n (omega arith)) (length-replicate n false)
          (room_for K _ _ _ probe n n refl (c.has_room.ensures.room.0 c.if-not-has_room.false));
    }

pub loop-done-init : goal.loop-done-init
loop-done-init g c =
    let K = g.Self.BitWrite.sink in
    let first = c.args.bits % 128 in
    let probe = c.in_ok-write_unsigned_var.ensures.writes in
    record {
      begun = lead_more K false K.order 128 0 first 0 (omega arith) (pow_pos first) (λ o. word-zeros o first)
          (probed K _ _ _ probe) (first + 0) (omega arith) c.in_ok-write_unsigned_var-2.ensures.writes;
      room = room_for K _ _ _ probe _ _ refl (c.has_room.ensures.room.0 c.if-not-has_room.false);
    }

pub returns-in_err-write_unsigned_var-3 : goal.returns-in_err-write_unsigned_var-3
returns-in_err-write_unsigned_var-3 g c =
    let K = g.Self.BitWrite.sink in
    let n = c.args.bits in
    let at = n % 128 + 128 * c.loop-done._done in
    let split = zeros-split at (n - at) n (omega arith)
    ∙ ap (λ l. replicate at false ++ l) (zeros-split 128 (n - at - 128) (n - at) (omega arith)) in
    record {
      writes = lead_stops K false K.order 128 at 128 0 (omega arith) (pow_pos 128) (λ o. word-zeros o 128)
          c.loop-done.invariant.begun (zeros n) (replicate n false) (replicate (n - at - 128) false) n
          c.in_err-write_unsigned_var-3.ensures.writes c.from_residual-in_err-write_unsigned_var-3.ensures.1 refl split
          (length-replicate n false) c.loop-done.invariant.room;
    }

pub loop-done-preserved : goal.loop-done-preserved
loop-done-preserved g c =
    let K = g.Self.BitWrite.sink in
    let at = c.args.bits % 128 + 128 * c.loop-done._done in
    record {
      begun = lead_more K false K.order 128 at 128 0 (omega arith) (pow_pos 128) (λ o. word-zeros o 128)
          c.loop-done.invariant.begun _ (omega arith) c.in_ok-write_unsigned_var-3.ensures.writes;
      room = c.loop-done.invariant.room;
    }

pub returns : goal.returns
returns g c =
    let at = c.args.bits % 128 + 128 * c.loop-done._done in
    let all : at ≡ c.args.bits = omega arith in
    record {
      writes = to_ok g.Self.BitWrite.sink (zeros c.args.bits) _ _ _ _ (replicate at false)
          c.loop-done.invariant.begun refl (ap (λ (k : ℕ). Ok (replicate k false)) (sym all));
    }
