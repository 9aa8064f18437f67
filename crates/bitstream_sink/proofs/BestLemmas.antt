-- The better of two recorders.
use Rattle.std.specs.Prelude.{◌↔◌}
use Rattle.std.proofs.Common.{◌≡◌, ◌⊎◌, inl, inr, ◌<◌, ◌≤◌, Bool, IsTrue, true, false, Result, Ok, refl}
use Rattle.std.proofs.lemmas.Bool.{cases_lt}
use Rattle.bitstream_stream.specs.Writing.Sink.{Sink}
use Rattle.bitstream_stream.proofs.Writing.SinkLemmas.{untold}
use Rattle.bitstream_sink.specs.Best.{Best, kept_the_shorter, kept_the_sound}

module _ {R F : Type 0} (K : Sink R) (is_empty : R → Type 0) (records : R → Result (Unit {0}) F → R
    → Type 0) (recorder empty left : R) (cleared : is_empty empty) (ran : records empty (Ok tt) left) where
  kept_as : (failed : Bool) → K.failed left ≡ failed → (K.len left < K.len recorder) ⊎ (K.len recorder ≤ K.len left)
      → ((K.failed left ≡ false) × (K.len left < K.len recorder) → ⊥)
      → Best K is_empty records recorder (Ok recorder) left
  kept_as true failed order worse = kept_the_sound empty left cleared ran failed refl refl
  kept_as false sound (inl fewer) worse = absurd (worse (sound, fewer))
  kept_as false sound (inr more) worse = kept_the_shorter empty left cleared ran more refl refl

  -- a candidate that is not better
  pub kept : (better : Bool) → IsTrue better ↔ ((K.failed left ≡ false) × (K.len left < K.len recorder)) → better
      ≡ false → Best K is_empty records recorder (Ok recorder) left
  kept better told worse = kept_as (K.failed left) refl (cases_lt (K.len left) (K.len recorder))
      (untold _ better worse told.1)
