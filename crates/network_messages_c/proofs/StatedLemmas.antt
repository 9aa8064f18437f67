-- Made by `./format --c`, which prints the same for each crate: edit tools/describing/c/shared.py.
-- Bytes whose size a number states, of which some numbers state none.
use Rattle.std.proofs.Common.{◌≡◌, ℕ, None, Some, Result, Ok, Err, subst}
use Rattle.bitstream_io.specs.Callers.{Decoder, Error, Order, BitSource, ReadsOwn}
use Rattle.bitstream_io.proofs.CallerLemmas.{own_end}
use Rattle.bitstream_format.specs.Stated.{if_stated, stated_decoder, stated_size}

module _ {R A E : Type 0} {K : BitSource R} {own : Error → E → Type 0} (unit plus less : ℕ) (err : E)
    (decoder : Order → ℕ → Decoder (Result A E)) (o : Order) (number : ℕ) where
  -- bytes whose size is stated
  pub stated_own-some : {n : ℕ} {s t : R} {r : Result A E} → Some n ≡ stated_size unit plus less number
      → ReadsOwn K own (decoder o n) s r t → ReadsOwn K own (stated_decoder unit plus less err decoder o number) s r t
  stated_own-some {s = s} {t = t} {r = r} is read =
      subst (λ size. ReadsOwn K own (if_stated err (decoder o) size) s r t) is read

  -- bytes whose size is not
  pub stated_own-none : {s : R} → None ≡ stated_size unit plus less number
      → ReadsOwn K own (stated_decoder unit plus less err decoder o number) s (Err err) s
  stated_own-none {s = s} is =
      subst (λ size. ReadsOwn K own (if_stated err (decoder o) size) s (Err err) s) is (own_end _ _)
