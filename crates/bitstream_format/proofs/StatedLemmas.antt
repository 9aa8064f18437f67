-- Sizes in units: what the reads and writes in code return.
use Rattle.std.proofs.Common.{◌≡◌, ℕ, List, [], ◌∷◌, None, Some, Result, Ok, Err, sym, subst}
use Rattle.bitstream_count.specs.declared.error.Error.{Error}
use Rattle.bitstream_stream.specs.Reading.Reads.{BitSource}
use Rattle.bitstream_value.specs.Lengths.{CountsBits}
use Rattle.bitstream_stream.specs.Writing.Sink.{Sink}
use Rattle.bitstream_value.proofs.GrowsLemmas.{grown_end}
use Rattle.bitstream_io.specs.Callers.{Decoder, Encoder, Order, GrowsOwn, same_error, WritesAll}
use Rattle.bitstream_format.specs.Stated.{if_stated, stated_decoder, stated_size, stored_encoder, stored_of}
use Rattle.bitstream_format.proofs.WithinLemmas.{counts-is}

-- ---- the reads and writes

module _ {R A E : Type 0} {K : BitSource R} {own : Error → E → Type 0} (unit plus less : ℕ) (err : E)
    (decoder : Order → ℕ → Decoder (Result A E)) (o : Order) (number : ℕ) where
  -- a part whose size is stated
  pub stated-some : {n : ℕ} {s t : R} {r : Result A E} → Some n ≡ stated_size unit plus less number
      → GrowsOwn K own (decoder o n) s r t → GrowsOwn K own (stated_decoder unit plus less err decoder o number) s r t
  stated-some {s = s} {t = t} {r = r} is read = subst (λ size. GrowsOwn K own (if_stated err (decoder o) size) s r t) is read

  -- one whose size is not
  pub stated-none : {s : R} → None ≡ stated_size unit plus less number
      → GrowsOwn K own (stated_decoder unit plus less err decoder o number) s (Err err) s
  stated-none {s = s} is = subst (λ size. GrowsOwn K own (if_stated err (decoder o) size) s (Err err) s) is (grown_end _ _)

-- the number that states the size of a part whose bits were counted is written
pub stored-wrote : {S : Type 0} (K : Sink S) (o : Order) (width unit plus less : ℕ) (encoders : List Encoder) (r : Result ℕ Error)
    (s t : S) (x : Result (Unit {0}) Error) → CountsBits (λ x. x) 18446744073709551615 same_error encoders (Ok tt) r
    → WritesAll K (stored_of o width unit plus less r ∷ []) s x t
    → WritesAll K (stored_encoder o width unit plus less encoders ∷ []) s x t
unfolding stored_encoder
stored-wrote K o width unit plus less encoders r s t x counted wrote =
    subst (λ n. WritesAll K (stored_of o width unit plus less n ∷ []) s x t) (sym (counts-is encoders counted)) wrote
