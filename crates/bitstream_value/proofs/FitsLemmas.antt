-- What is known of a value that was read.
use Rattle.std.specs.Prelude.{ℤ, pos, negsuc, IfOk, IsErr, MatchOption}
use Rattle.std.proofs.Common.{◌≡◌, ℕ, ◌+◌, ◌^◌, ◌<◌, ◌≤◌, Option, Some, None, Result, Ok, Err, arith}
use Rattle.std.proofs.lemmas.Int.{ints}
use Rattle.bitstream_count.specs.declared.error.Error.{Error}
use Rattle.bitstream_number.specs.Word.{Order, FitsSignedBits}
use Rattle.bitstream_order.specs.Moving.Gather.{result_map}
use Rattle.bitstream_stream.specs.Reading.ReadTable.{unsigned_decoder, signed_decoder}
use Rattle.bitstream_stream.specs.Reading.Reads.{BitSource, Reads}
use Rattle.bitstream_stream.proofs.Reading.SignedLemmas.{unsigned-below}
use Rattle.bitstream_value.specs.NonZero.{number_or_zero}
use Rattle.bitstream_value.specs.Signed.{InSignedRange}
use Rattle.bitstream_value.proofs.CheckedLemmas.{signed-holds}

pub in_signed_range : (n : ℕ) (x : ℤ) → FitsSignedBits n x → InSignedRange n x
in_signed_range n (pos k) fits = (omega (arith, ints), omega (arith, ints))
in_signed_range n (negsuc k) fits = (omega (arith, ints), omega (arith, ints))

module _ {R : Type 0} {K : BitSource R} {A : Type 0} (o : Order) (size n : ℕ) where
  pub unsigned-in_range : (view : A → ℕ) (r : Result A Error) {s t : R}
      → Reads K (unsigned_decoder o size n) s (result_map view r) t → IfOk r (λ v. view v < 2 ^ n)
  unsigned-in_range view (Ok v) h = unsigned-below o size n (view v) h
  unsigned-in_range view (Err x) h = tt

  pub signed-in_range : (view : A → ℤ) (r : Result A Error) {s t : R}
      → Reads K (signed_decoder o size n) s (result_map view r) t → IfOk r (λ v. InSignedRange n (view v))
  signed-in_range view (Ok v) h = in_signed_range n (view v) (signed-holds o size n h).1
  signed-in_range view (Err x) h = tt

-- an error tells of no value
pub errors-fit : {A : Type 0} (P : A → Type 0) (r : Result A Error) → IsErr r → IfOk r P
errors-fit P (Ok a) is = cc
errors-fit P (Err x) is = tt

-- the value of a number, or `None` for 0
pub option-below : {A : Type 0} (number : A → ℕ) (n v : ℕ) (x : Option A)
    → MatchOption x (v ≡ 0) (λ y. number y ≡ v) → v < 2 ^ n → number_or_zero number x < 2 ^ n
option-below number n v None is small = omega (arith, is, small)
option-below number n v (Some y) is small = omega (arith, is, small)
