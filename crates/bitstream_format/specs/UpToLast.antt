-- Parts up to the last one, as `./format` prints them: the first part that meets a condition is the last one, and is kept.
use Rattle.std.specs.Prelude.{◌≡◌, ℕ, zero, suc, if◌then◌else◌, Bool, true, false, List, [], ◌∷◌, ◌++◌, Result, Ok}
use Rattle.std.specs.List.{All}
use Rattle.bitstream_count.specs.declared.error.Error.TheVariants.{RunTooLong}
use Rattle.bitstream_count.specs.Codec.{fail, stores}
use Rattle.bitstream_io.specs.Callers.{Decoder, and_then, pure, part_then}

-- Parts up to the last one, after those `found`. If none of the next n is the last, the error is `RunTooLong`. Each part is
-- stored once it is read.
unfoldable pub up_to_last_from : {A E : Type 0} → Decoder (Result A E) → (A → Bool) → ℕ → List A → Decoder (Result (List A) E)
up_to_last_from decoder last zero found = fail RunTooLong
up_to_last_from decoder last (suc n) found = and_then decoder (part_then (λ x.
    and_then (stores (found ++ x ∷ [])) (λ more. if last x then pure (Ok more) else up_to_last_from decoder last n more)))

-- The reads of parts up to the last one, which is among the first 2^32: the first part, and then the others. A reader that
-- has failed returns at the first one.
abbrev pub up_to_last_decoder : {A E : Type 0} → Decoder (Result A E) → (A → Bool) → Decoder (Result (List A) E)
up_to_last_decoder decoder last = and_then decoder (part_then (λ x.
    and_then (stores (x ∷ [])) (λ more. if last x then pure (Ok more) else up_to_last_from decoder last 4294967295 more)))

-- the last part meets the condition, and no part before it does
pub record EndsOnce {A : Type 0} (last : A → Bool) (parts : List A) : Type 0 where
  pub before : List A
  pub end : A
  pub whole : parts ≡ before ++ end ∷ []
  pub others : All (λ x. last x ≡ false) before
  pub ends : last end ≡ true
