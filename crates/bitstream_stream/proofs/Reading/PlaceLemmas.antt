-- The result of the conversion of a number into a `u64`.
use Rattle.std.proofs.Common.{arith, ◌≡◌, ◌<◌, ◌≤ℤ◌, ◌<ℤ◌, ◌^◌, ℕ, ℤ, pos, negsuc, nat_lt, Bool, true, false, if◌then◌else◌, Some, None, Result, Ok, Err, refl, sym, ap, ◌∙◌, w64}
use Rattle.std.proofs.lemmas.Int.{ints}
use Rattle.std.proofs.lemmas.Bool.{ltb-true, lt-ltb}
use Rattle.std.specs.Prelude.{unsigned_abs}
use Rattle.std.specs.Result.{OkIff, result_ok}
use Rattle.std.specs.Int.{FitsUnsigned}
use Rattle.bitstream_stream.specs.Reading.Place.{place_of}
use Rattle.bitstream_order.proofs.Streaming.SliceLemmas.{in_range}

left_out : (b : Bool) (k : ℕ) → nat_lt k (2 ^ 64) ≡ b → (k < 2 ^ 64 → ⊥) → None ≡ (if b then Some k else None)
left_out true k is above = absurd (above (ltb-true k (2 ^ 64) is))
left_out false k is above = refl

below_limit : (k : ℕ) → pos k <ℤ pos (2 ^ 64) → k < 2 ^ 64
below_limit k h = omega (arith, ints)

not_below : (k : ℕ) → pos 0 ≤ℤ negsuc k → ⊥
not_below k h = omega (arith, ints)

pub place-is : {X : Type 0} (x : ℤ) (r : Result ℕ X) → OkIff r (FitsUnsigned w64 x) (unsigned_abs x) → result_ok r
    ≡ place_of x
place-is (pos k) (Ok v) h = ap Some h.1 ∙ sym (ap (λ b. if b then Some k else None)
    (lt-ltb k (2 ^ 64) (below_limit k h.0.1)))
place-is (pos k) (Err e) h = left_out (nat_lt k (2 ^ 64)) k refl (λ below. h (in_range k below))
place-is (negsuc k) (Ok v) h = absurd (not_below k h.0.0)
place-is (negsuc k) (Err e) h = refl
