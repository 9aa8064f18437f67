-- A call on a counter is a sum.
use Rattle.std.proofs.Common.{◌≡◌, ℕ, ◌+◌, ◌<◌, ◌≤◌, List, Bool, length, Some, Result, Ok, Err, refl, arith}
use Rattle.bitstream_number.specs.Word.{Order}
use Rattle.bitstream_count.specs.Codec.{Encoder}
use Rattle.bitstream_count.specs.declared.error.Error.{Error}
use Rattle.bitstream_count.specs.declared.error.Error.TheVariants.{CounterOverflow}
use Rattle.bitstream_stream.specs.Writing.Sink.{Writes, IsFullLimit, past_limit, was_done}
use Rattle.bitstream_sink.specs.Counting.{counter_sink}

module _ {S : Type 0} (o : Order) (count : S → ℕ) (greatest : ℕ) (full : IsFullLimit (Some greatest)) (within : (s : S)
    → count s ≤ greatest) where
  -- an encoding of n bits was counted
  pub counted : {T : Type 0} (encoder : Encoder) (old : S) (result : Result T Error) (new : S) (x : List Bool)
      (n : ℕ) (done : T)
      → encoder (count old) ≡ Ok x → length x ≡ n → result ≡ Ok done → count new ≡ count old + n
      → Writes (counter_sink o count greatest full within) encoder old result new
  counted encoder old result new x n done is len answer sum =
      was_done x done refl is (omega (arith, len, sum, within new)) answer (record {
        grown = omega (arith, len, sum);
        sound = refl;
        refusals = refl;
        references = refl;
      })

  -- its length passes the greatest number
  pub overflowed : {T : Type 0} (encoder : Encoder) (old : S) (result : Result T Error) (new : S) (x : List Bool)
      (n : ℕ)
      → encoder (count old) ≡ Ok x → length x ≡ n → result ≡ Err CounterOverflow → greatest < count old + n → count new
      ≡ count old → Writes (counter_sink o count greatest full within) encoder old result new
  overflowed encoder old result new x n is len answer past same =
      past_limit x refl is (omega (arith, len, past)) answer (record {
        grown = omega (arith, same);
        failed = refl;
        refusals = refl;
        references = refl;
      })
