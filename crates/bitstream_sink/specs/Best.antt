-- The better of two recorders.
use Rattle.std.specs.Prelude.{◌≡◌, ◌<◌, ◌≤◌, true, false, Result, Ok, Err}
use Rattle.bitstream_stream.specs.Writing.Sink.{Sink}

-- The better of a recorder and a candidate: the effect of the function on an empty recorder, and the recorder
-- returned. The candidate is returned if it is strictly shorter and has not failed. The recorder then takes the
-- candidate's place.
pub data Best {R F : Type 0} (K : Sink R) (is_empty : R → Type 0) (records : R → Result (Unit {0}) F → R
    → Type 0) (recorder : R) (result : Result R F) (candidate : R) : Type 0 where
  gave_candidate : (empty left : R) → is_empty empty → records empty (Ok tt) left → K.failed left ≡ false
      → K.len left < K.len recorder
      → result ≡ Ok left → candidate ≡ recorder → Best K is_empty records recorder result candidate
  kept_the_shorter : (empty left : R) → is_empty empty → records empty (Ok tt) left → K.len recorder ≤ K.len left
      → result ≡ Ok recorder → candidate ≡ left → Best K is_empty records recorder result candidate
  kept_the_sound : (empty left : R) → is_empty empty → records empty (Ok tt) left → K.failed left ≡ true
      → result ≡ Ok recorder → candidate ≡ left → Best K is_empty records recorder result candidate
  function_failed : (empty left : R) (error : F) → is_empty empty → records empty (Err error) left
      → result ≡ Err error → candidate ≡ left → Best K is_empty records recorder result candidate
