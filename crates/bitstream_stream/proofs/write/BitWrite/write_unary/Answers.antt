use Rattle.std.proofs.Common.{arith, ◌≡◌, ◌+◌, ◌-◌, ◌*◌, ◌%◌, ℕ, List, [], ◌∷◌, ◌++◌, Bool, not, replicate, Ok, refl, sym, ap, ◌∙◌, subst, length}
use Rattle.std.specs.Prelude.{◌==◌}
use Rattle.bitstream_count.specs.Unary.{unary}
use Rattle.bitstream_count.proofs.UnaryLemmas.{length-unary, unary-split}
use Rattle.bitstream_stream.specs.Writing.Sink.{IsWithin, Writes}
use Rattle.bitstream_stream.specs.Writing.WriteTable.{unary_word, bit}
use Rattle.bitstream_stream.proofs.Writing.SinkParts.{probe_stops, probed, room_for, no_room_for, lead_more, lead_stops, last}
use Rattle.bitstream_stream.proofs.write.BitWrite.write_unary.Goals as goal

pub returns-in_err-write_unsigned_var : goal.returns-in_err-write_unsigned_var
returns-in_err-write_unsigned_var g c = record {
  writes =
      probe_stops g.Self.BitWrite.sink _ _ _ _ c.in_err-write_unsigned_var.ensures.writes c.from_residual.ensures.1;
}

pub returns-then-not-has_room : goal.returns-then-not-has_room
returns-then-not-has_room g c =
    record {
      writes = no_room_for g.Self.BitWrite.sink _ _ _ c.in_ok-write_unsigned_var.ensures.writes _ _ _ _
          c.if-not-has_room.true c.has_room.ensures.room.1 (length-unary (g.S.Width.BITS == 1) c.args.value) refl;
    }

pub returns-in_err-write_unsigned_var-2 : goal.returns-in_err-write_unsigned_var-2
returns-in_err-write_unsigned_var-2 g c =
    let K = g.Self.BitWrite.sink in
    let stop = c.BITS-stop.result == 1 in
    let n = c.args.value in
    let first = n % 128 in
    let probe = c.in_ok-write_unsigned_var.ensures.writes in
    record {
      writes = subst (λ k. Writes K (unary_word (k == 1) n) c.args.self.now
          c.from_residual-in_err-write_unsigned_var-2.result c.write_unsigned_var-2.new.self) c.BITS-stop.ensures
          (lead_stops K (not stop) K.order 128 0 first c.run_without_stop.result (omega arith) c.run_without_stop.ensures.below
          c.run_without_stop.ensures.word (probed K _ _ _ probe) (unary_word stop n) (unary stop n) (unary stop (n - first))
          (n + 1)
          c.in_err-write_unsigned_var-2.ensures.writes c.from_residual-in_err-write_unsigned_var-2.ensures.1 refl
          (unary-split stop first (n - first) n (omega arith)) (length-unary stop n)
          (room_for K _ _ _ probe (n + 1) (n + 1) refl (c.has_room.ensures.room.0 c.if-not-has_room.false)));
    }

pub loop-done-init : goal.loop-done-init
loop-done-init g c =
    let K = g.Self.BitWrite.sink in
    let first = c.args.value % 128 in
    let probe = c.in_ok-write_unsigned_var.ensures.writes in
    record {
      begun = lead_more K (not (c.BITS-stop.result == 1)) K.order 128 0 first c.run_without_stop.result (omega arith)
          c.run_without_stop.ensures.below c.run_without_stop.ensures.word (probed K _ _ _ probe) (first + 0) (omega arith)
          c.in_ok-write_unsigned_var-2.ensures.writes;
      room = room_for K _ _ _ probe _ _ refl (c.has_room.ensures.room.0 c.if-not-has_room.false);
    }

pub returns-in_err-write_unsigned_var-3 : goal.returns-in_err-write_unsigned_var-3
returns-in_err-write_unsigned_var-3 g c =
    let K = g.Self.BitWrite.sink in
    let stop = c.BITS-stop.result == 1 in
    let n = c.args.value in
    let at = n % 128 + 128 * c.loop-done._done in
    let split = unary-split stop at (n - at) n (omega arith)
    ∙ ap (λ (l : List Bool). replicate at (not stop)
    ++ l) (unary-split stop 128 (n - at - 128) (n - at) (omega arith)) in
    record {
      writes = subst (λ k. Writes K (unary_word (k == 1) n) c.args.self.now
          c.from_residual-in_err-write_unsigned_var-3.result c.write_unsigned_var-in-loop-done.new.self)
          c.BITS-stop.ensures
          (lead_stops K (not stop) K.order 128 at 128 c.run_without_stop-in-loop-done.result (omega arith)
          c.run_without_stop-in-loop-done.ensures.below c.run_without_stop-in-loop-done.ensures.word c.loop-done.invariant.begun
          (unary_word stop n) (unary stop n)
          (unary stop (n - at - 128)) (n + 1) c.in_err-write_unsigned_var-3.ensures.writes
          c.from_residual-in_err-write_unsigned_var-3.ensures.1 refl split (length-unary stop n)
          c.loop-done.invariant.room);
    }

pub loop-done-preserved : goal.loop-done-preserved
loop-done-preserved g c =
    let K = g.Self.BitWrite.sink in
    let at = c.args.value % 128 + 128 * c.loop-done._done in
    record {
      begun = lead_more K (not (c.BITS-stop.result == 1)) K.order 128 at 128 c.run_without_stop-in-loop-done.result (omega arith)
          c.run_without_stop-in-loop-done.ensures.below c.run_without_stop-in-loop-done.ensures.word c.loop-done.invariant.begun _
          (omega arith)
          c.in_ok-write_unsigned_var-3.ensures.writes;
      room = c.loop-done.invariant.room;
    }

pub returns : goal.returns
returns g c =
    let K = g.Self.BitWrite.sink in
    let stop = c.BITS-stop.result == 1 in
    let n = c.args.value in
    let at = n % 128 + 128 * c.loop-done._done in
    let all : at ≡ n = omega arith in
    let word = ap (λ (k : ℕ). unary stop k) (sym all) in
    record {
      writes = subst (λ k. Writes K (unary_word (k == 1) n) c.args.self.now c.write_bit.result c.write_bit.new.self)
          c.BITS-stop.ensures
          (last K (bit stop) (unary_word stop n) _ _ _ _ (replicate at (not stop)) (stop ∷ [])
          c.loop-done.invariant.begun c.write_bit.ensures.writes refl (ap Ok word)
          (subst (λ (m : ℕ). IsWithin K.limit (K.len c.args.self.now + m))
          (sym (ap length (sym word) ∙ length-unary stop n)) c.loop-done.invariant.room));
    }
