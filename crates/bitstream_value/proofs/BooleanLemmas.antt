-- Truth values.
use Rattle.std.proofs.Common.{◌≡◌, ◌≢◌, ℕ, Bool, Result, Err}
use Rattle.std.proofs.lemmas.Bool.{ne_eqb}
use Rattle.bitstream_count.specs.declared.error.Error.{Error}
use Rattle.bitstream_count.specs.declared.error.Error.TheVariants.{BoolWidth}
use Rattle.bitstream_count.specs.Codec.{fail}
use Rattle.bitstream_stream.specs.Reading.ReadTable.{bit_decoder}
use Rattle.bitstream_stream.specs.Reading.Reads.{BitSource, Reads}
use Rattle.bitstream_stream.specs.Writing.Sink.{Sink, Writes}
use Rattle.bitstream_stream.specs.Writing.WriteTable.{bit}
use Rattle.bitstream_value.specs.Boolean.{truth_decoder, truth}

module _ {R : Type 0} {K : BitSource R} where
  pub truth-bit : (n : ℕ) {r : Result Bool Error} {s t : R} → n ≡ 1 → Reads K bit_decoder s r t
      → Reads K (truth_decoder n) s r t
  unfolding truth_decoder
  truth-bit n one h = rw one h

  pub truth-refused : (n : ℕ) {r : Result Bool Error} {s t : R} → n ≢ 1 → Reads K (fail BoolWidth) s r t
      → Reads K (truth_decoder n) s r t
  unfolding truth_decoder
  truth-refused n other h = rw (ne_eqb n 1 other) h

module _ {S : Type 0} (K : Sink S) where
  pub writes-bit : (n : ℕ) (b : Bool) (r : Result (Unit {0}) Error) (s t : S) → n ≡ 1 → Writes K (bit b) s r t
      → Writes K (truth n b) s r t
  unfolding truth
  writes-bit n b r s t one h = rw one h

  pub writes-refused : (n : ℕ) (b : Bool) (r : Result (Unit {0}) Error) (s t : S) → n ≢ 1
      → Writes K (λ _. Err BoolWidth) s r t → Writes K (truth n b) s r t
  unfolding truth
  writes-refused n b r s t other h = rw (ne_eqb n 1 other) h
