-- Numbers that are not 0.
use Rattle.std.proofs.Common.{◌≡◌, ℕ, zero, suc, ◌+◌, ◌-◌, ◌*◌, ◌^◌, ◌<◌, ◌≤◌, [], ◌∷◌, Option, Some, None, true, Result, Ok, Err, refl, ap, ◌∙◌, arith}
use Rattle.std.specs.Option.{MatchOption}
use Rattle.std.specs.Result.{IsErrAnd}
use Rattle.std.proofs.Math.Nat.{pow-le-pow_right}
use Rattle.std.proofs.lemmas.Bool.{lt-ltb, le-ltb}
use Rattle.std.proofs.lemmas.Nat.{pow-add}
use Rattle.bitstream_count.specs.declared.error.Error.{Error}
use Rattle.bitstream_count.specs.declared.error.Error.TheVariants.{NonZeroWidth, VariableWidthOverflow}
use Rattle.bitstream_count.specs.Codec.{fail, pure}
use Rattle.bitstream_number.specs.Word.{Order}
use Rattle.bitstream_stream.specs.Reading.ReadTable.{unsigned_decoder, vbr_decoder}
use Rattle.bitstream_stream.specs.Reading.Reads.{BitSource, Reads}
use Rattle.bitstream_stream.specs.Writing.Sink.{Sink, WritesAll, Writes}
use Rattle.bitstream_stream.specs.Writing.WriteTable.{unsigned}
use Rattle.bitstream_stream.proofs.Reading.ReadsLemmas.{Reads-and_then-ok, Reads-and_then-err, Reads-pure, exit}
use Rattle.bitstream_stream.proofs.Reading.VbrReads.{limit-stops, limit-holds, limit-passed}
use Rattle.bitstream_value.specs.NonZero.{non_zero_decoder, non_zero, non_zero_vbr_decoder, if_any, option_decoder, option_vbr_decoder}

module _ {A : Type 0} (after : ℕ → A) where
  -- the value of a number, or none of 0
  pub if_any-is : (number : A → ℕ) (v : ℕ) (x : Option A) → ((y : A) → 0 < number y)
      → ((y : A) (k : ℕ) → number y ≡ k + 1 → after k ≡ y) → MatchOption x (v ≡ 0) (λ y. number y ≡ v) → if_any after v
      ≡ x
  if_any-is number zero None some law h = refl
  if_any-is number zero (Some y) some law h = absurd (let less = some y in omega (arith, less, h))
  if_any-is number (suc k) None some law h = absurd (omega (arith, h))
  if_any-is number (suc k) (Some y) some law h = ap Some (law y k (h ∙ (let e : suc k ≡ k + 1 = omega arith in e)))

module _ {A : Type 0} (after : ℕ → A) {R : Type 0} {K : BitSource R} where
  pub non_zero-stops : (o : Order) (size n : ℕ) {x : Error} {r : Result A Error} {s t : R} → n < size
      → IsErrAnd r (λ y. y ≡ x) → Reads K (unsigned_decoder o size n) s (Err x) t
      → Reads K (non_zero_decoder after o size n) s r t
  unfolding non_zero_decoder
  non_zero-stops o size n {r = r} less h k = rw (lt-ltb n size less) (exit (λ v. pure (after v)) r h k)

  pub non_zero-was_done : (o : Order) (size n v : ℕ) (a : A) {s t : R} → n < size → after v ≡ a
      → Reads K (unsigned_decoder o size n) s (Ok v) t → Reads K (non_zero_decoder after o size n) s (Ok a) t
  unfolding non_zero_decoder
  non_zero-was_done o size n v a {s = s} {t = t} less is h =
      rw (lt-ltb n size less, ← is) (Reads-and_then-ok _ (λ k. pure (after k)) h (Reads-pure (after v) t))

  pub non_zero-refused : (o : Order) (size n : ℕ) {r : Result A Error} {s t : R} → size ≤ n
      → Reads K (fail NonZeroWidth) s r t → Reads K (non_zero_decoder after o size n) s r t
  unfolding non_zero_decoder
  non_zero-refused o size n wide h = rw (le-ltb n size wide) h

  pub option-stops : (o : Order) (size n : ℕ) {x : Error} {r : Result (Option A) Error} {s t : R}
      → IsErrAnd r (λ y. y ≡ x) → Reads K (unsigned_decoder o size n) s (Err x) t
      → Reads K (option_decoder after o size n) s r t
  unfolding option_decoder
  option-stops o size n {r = r} h k = exit (λ v. pure (if_any after v)) r h k

  pub option-was_done : (o : Order) (size n v : ℕ) (x : Option A) {s t : R} → if_any after v ≡ x
      → Reads K (unsigned_decoder o size n) s (Ok v) t → Reads K (option_decoder after o size n) s (Ok x) t
  unfolding option_decoder
  option-was_done o size n v x {s = s} {t = t} is h = rw (← is)
      (Reads-and_then-ok _ (λ k. pure (if_any after k)) h (Reads-pure (if_any after v) t))

  -- ---- in groups

  pub non_zero_vbr-stops : (o : Order) (field size : ℕ) {x : Error} {r : Result A Error} {s t : R}
      → IsErrAnd r (λ y. y ≡ x) → Reads K (vbr_decoder o field size (2 ^ size)) s (Err x) t
      → Reads K (non_zero_vbr_decoder after o field size) s r t
  unfolding non_zero_vbr_decoder
  non_zero_vbr-stops o field size {x = x} {r = r} h k =
      exit (λ v. pure (after v)) r h (limit-stops true o field size (2 ^ size - 1) (2 ^ size) (omega arith) x k)

  pub non_zero_vbr-was_done : (o : Order) (field size v : ℕ) (a : A) {s t : R} → v + 1 < 2 ^ size → after v ≡ a
      → Reads K (vbr_decoder o field size (2 ^ size)) s (Ok v) t
      → Reads K (non_zero_vbr_decoder after o field size) s (Ok a) t
  unfolding non_zero_vbr_decoder
  non_zero_vbr-was_done o field size v a {s = s} {t = t} less is h =
      rw (← is) (Reads-and_then-ok _ (λ k. pure (after k))
      (limit-holds true o field size (2 ^ size - 1) (2 ^ size) (omega arith) v (omega arith) h)
      (Reads-pure (after v) t))

  -- the greatest number has none after it
  pub non_zero_vbr-overflows : (o : Order) (field size v : ℕ) {s t : R} → v ≡ 2 ^ size - 1
      → Reads K (vbr_decoder o field size (2 ^ size)) s (Ok v) t
      → Reads K (non_zero_vbr_decoder after o field size) s (Err VariableWidthOverflow) t
  unfolding non_zero_vbr_decoder
  non_zero_vbr-overflows o field size v is h = Reads-and_then-err _ (λ k. pure (after k))
      (limit-passed true o field size (2 ^ size - 1) (2 ^ size) (omega arith) v (omega arith) h)

  pub option_vbr-stops : (o : Order) (field size : ℕ) {x : Error} {r : Result (Option A) Error} {s t : R}
      → IsErrAnd r (λ y. y ≡ x) → Reads K (vbr_decoder o field size (2 ^ size)) s (Err x) t
      → Reads K (option_vbr_decoder after o field size) s r t
  unfolding option_vbr_decoder
  option_vbr-stops o field size {r = r} h k = exit (λ v. pure (if_any after v)) r h k

  pub option_vbr-was_done : (o : Order) (field size v : ℕ) (x : Option A) {s t : R} → if_any after v ≡ x
      → Reads K (vbr_decoder o field size (2 ^ size)) s (Ok v) t
      → Reads K (option_vbr_decoder after o field size) s (Ok x) t
  unfolding option_vbr_decoder
  option_vbr-was_done o field size v x {s = s} {t = t} is h =
      rw (← is) (Reads-and_then-ok _ (λ k. pure (if_any after k)) h (Reads-pure (if_any after v) t))

-- a number of fewer bits than the type has is not its greatest
pub next_fits : (n size v : ℕ) → n < size → v < 2 ^ n → v + 1 < 2 ^ size
next_fits n size v less below =
    let more : 2 ^ (n + 1) ≤ 2 ^ size = pow-le-pow_right (omega arith) (omega arith) in
    let twice : 2 ^ (n + 1) ≡ 2 ^ n * 2 = pow-add 2 n 1 in
    omega (arith, more, twice, below)

module _ {S : Type 0} (K : Sink S) where
  pub writes-less : (o : Order) (size n v k : ℕ) (r : Result (Unit {0}) Error) (s t : S) → n < size → k ≡ v - 1
      → WritesAll K (unsigned o size n k ∷ []) s r t → WritesAll K (non_zero o size n v ∷ []) s r t
  unfolding non_zero
  writes-less o size n v k r s t less is h = rw (lt-ltb n size less, ← is) h

  pub writes-wide : (o : Order) (size n v : ℕ) (r : Result (Unit {0}) Error) (s t : S) → size ≤ n
      → Writes K (λ _. Err NonZeroWidth) s r t → Writes K (non_zero o size n v) s r t
  unfolding non_zero
  writes-wide o size n v r s t wide h = rw (le-ltb n size wide) h
