use Rattle.std.proofs.Common.{zero-add, add_assoc, IsTrue, ◌≡◌, ◌≢◌, ◌<◌, ℕ, Option, ◌-◌, ◌+◌, ◌%◌, Bool, true, false, replicate, [], ◌∷◌, Ok, refl, sym, ap, ◌∙◌, arith}
use Rattle.bitstream_stream.specs.Alignment.{to_boundary}
use Rattle.bitstream_stream.specs.Writing.Sink.{IsWithin}
use Rattle.bitstream_stream.specs.Writing.WriteTable.{align}
use Rattle.bitstream_stream.proofs.Writing.SinkParts.{from_ok, to_ok, probe_stops, probe_passed, probed, probed_len, part_stops, Begun-more}
use Rattle.bitstream_stream.proofs.Writing.SinkLemmas.{within_less, no_zeros, untold}
use Rattle.std.proofs.lemmas.List.{length-replicate}
use Rattle.bitstream_stream.proofs.Writing.WriteLemmas.{replicate-split, to_boundary-step}
use Rattle.bitstream_stream.proofs.Shared.{replicate-more}
use Rattle.bitstream_stream.proofs.write.BitWrite.byte_align.Goals as goal
use Rattle.bitstream_stream.proofs.write.BitWrite.byte_align.Goals.{else-not-byte_aligned-via-then-not-byte_aligned+else-not-has_room, else-not-byte_aligned-via-else-not-byte_aligned}

pub returns-in_err-write_unsigned_var : goal.returns-in_err-write_unsigned_var
returns-in_err-write_unsigned_var g c = record {
  writes =
      probe_stops g.Self.BitWrite.sink _ _ _ _ c.in_err-write_unsigned_var.ensures.writes c.from_residual.ensures.1;
}

room_aligned : (limit : Option ℕ) (a b : ℕ) → IsWithin limit a → b % 8 ≡ 0 → b ≡ a → IsWithin limit (a + to_boundary a)
room_aligned limit a b within aligned same = within_less limit (a + to_boundary a) a (omega arith) within

room_seven : (limit : Option ℕ) (a b : ℕ) → IsWithin limit (b + 7) → b ≡ a → IsWithin limit (a + to_boundary a)
room_seven limit a b within same = within_less limit (a + to_boundary a) (b + 7) (omega arith) within

pub loop-self-init : goal.loop-self-init
loop-self-init g c =
    let K = g.Self.BitWrite.sink in
    let b = probed K _ _ _ c.in_ok-write_unsigned_var.ensures.writes in
    let same = probed_len K _ _ _ c.in_ok-write_unsigned_var.ensures.writes in
    let room : IsWithin K.limit (K.len c.args.self.now + to_boundary (K.len c.args.self.now)) =
    elim c.else-not-byte_aligned.branch [
      | else-not-byte_aligned-via-then-not-byte_aligned+else-not-has_room w ↦
          room_seven K.limit _ _ (w.has_room.ensures.room.0 w.if-not-has_room.false) same
      | else-not-byte_aligned-via-else-not-byte_aligned w ↦
          room_aligned K.limit _ _ (K.within c.args.self.now)
          (c.byte_aligned.ensures.aligned.0 w.if-not-byte_aligned.false).1 same
    ] in
    (0, b, zero-add _ ∙ ap to_boundary same, room)

-- not aligned, though sound
off : (A B : Type 0) (r : Bool) → (IsTrue r → A × B) × (A × B → IsTrue r) → r ≡ false → A → B → ⊥
off A B true h e a b = cc
off A B false h e a b = let t = h.1 (a, b) in cc

pub returns-then-not-has_room : goal.returns-then-not-has_room
returns-then-not-has_room g c =
    let K = g.Self.BitWrite.sink in
    let b = probed K _ _ _ c.in_ok-write_unsigned_var.ensures.writes in
    let old = K.len c.args.self.now in
    let same = probed_len K _ _ _ c.in_ok-write_unsigned_var.ensures.writes in
    let zeros = replicate (to_boundary old) false in
    let past : IsWithin K.limit (old + 7) → ⊥ = λ h. untold _ _ c.if-not-has_room.true c.has_room.ensures.room.1
    (rw same h) in
    let away : old % 8 ≢ 0 = λ h. off _ _ _ c.byte_aligned.ensures.aligned c.if-not-byte_aligned.true b.done.sound
    (rw same h) in
    record {
      writes = probe_passed K align _ _ _ zeros b refl
          (rw (length-replicate (to_boundary old) false) (no_zeros K.limit K.limit_full old (K.within c.args.self.now)
          past away)) refl;
    }

pub loop-self-preserved : goal.loop-self-preserved
loop-self-preserved g c =
    let K = g.Self.BitWrite.sink in
    let k = c.loop-self.invariant.0 in
    let b = from_ok K _ _ _ _ _ (false ∷ []) c.in_ok-write_bit.ensures.writes refl refl in
    let far : K.len c.write_bit.new.self ≡ K.len c.loop-self.self + 1 = K.appends_len _ _ _ b.done.grown in
    let step = to_boundary-step (K.len c.loop-self.self)
    (off _ _ _ c.byte_aligned-in-loop-self.ensures.aligned c.loop-self-test.true b.was_sound) in (
      k + 1,
      rw (replicate-more k false) (Begun-more K _ _ _ (replicate k false) (false ∷ []) c.loop-self.invariant.1 b),
      rw far (add_assoc k 1 _ ∙ ap (λ (n : ℕ). k + n) (sym step) ∙ c.loop-self.invariant.2),
      c.loop-self.invariant.3,
    )

pub loop-self-smaller : goal.loop-self-smaller
loop-self-smaller g c =
    let K = g.Self.BitWrite.sink in
    let b = from_ok K _ _ _ _ _ (false ∷ []) c.in_ok-write_bit.ensures.writes refl refl in
    let far : K.len c.write_bit.new.self ≡ K.len c.loop-self.self + 1 = K.appends_len _ _ _ b.done.grown in
    let step = to_boundary-step (K.len c.loop-self.self)
    (off _ _ _ c.byte_aligned-in-loop-self.ensures.aligned c.loop-self-test.true b.was_sound) in
    let smaller : to_boundary (K.len c.write_bit.new.self) < to_boundary (K.len c.loop-self.self) =
    rw (far, step) (omega arith) in
    smaller

pub returns-in_err-write_bit : goal.returns-in_err-write_bit
returns-in_err-write_bit g c =
    let K = g.Self.BitWrite.sink in
    let k = c.loop-self.invariant.0 in
    let n = to_boundary (K.len c.args.self.now) in
    let step = to_boundary-step (K.len c.loop-self.self)
    (off _ _ _ c.byte_aligned-in-loop-self.ensures.aligned c.loop-self-test.true c.loop-self.invariant.1.done.sound)
    in
    let within : k < n = omega (arith, step, c.loop-self.invariant.2) in
    record {
      writes = part_stops K _ align (replicate k false) (false ∷ []) (replicate (n - (k + 1)) false) n
          c.loop-self.invariant.1 c.in_err-write_bit.ensures.writes c.from_residual-in_err-write_bit.ensures.1
          refl (replicate n false) refl (replicate-split k n false within) (length-replicate n false)
          c.loop-self.invariant.3;
    }

pub returns : goal.returns
returns g c =
    let K = g.Self.BitWrite.sink in
    let k = c.loop-self.invariant.0 in
    let aligned : K.len c.loop-self.self % 8 ≡ 0 = (c.byte_aligned-in-loop-self.ensures.aligned.0
    c.loop-self-test.false).1 in
    let all : k ≡ to_boundary (K.len c.args.self.now) = omega (arith, aligned, c.loop-self.invariant.2) in
    record {
      writes = to_ok K align _ _ _ _ (replicate k false) c.loop-self.invariant.1 refl
          (ap (λ (n : ℕ). Ok (replicate n false)) (sym all));
    }
