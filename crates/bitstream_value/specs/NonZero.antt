-- Values of `NonZero` types, and the numbers that represent them. A value carries a proof that it is not 0: so
-- lemmas are imported.
use Rattle.std.specs.Coded.{le_prop}
use Rattle.std.specs.Prelude.{◌≡◌, ℕ, zero, suc, ◌-◌, ◌^◌, ◌<◌, nat_lt, if◌then◌else◌, Option, Some, None, Err}
use Rattle.std.proofs.Common.{ap, subst}
use Rattle.bitstream_count.specs.declared.error.Error.TheVariants.{NonZeroWidth}
use Rattle.bitstream_count.specs.Codec.{Decoder, Encoder, and_then, fail, pure}
use Rattle.bitstream_number.specs.Word.{Order}
use Rattle.bitstream_stream.specs.Reading.ReadTable.{unsigned_decoder, vbr_decoder}
use Rattle.bitstream_stream.specs.Writing.WriteTable.{unsigned}

-- a `NonZero` v, of a type of `size` bits, is read as v - 1; `after` maps v to the value of v + 1
unfoldable pub non_zero_decoder : {A : Type 0} → (ℕ → A) → Order → ℕ → ℕ → Decoder A
non_zero_decoder after o size n =
    if nat_lt n size then and_then (unsigned_decoder o size n) (λ v. pure (after v)) else fail NonZeroWidth

-- the encoding of a `NonZero` v: the encoding of v - 1
unfoldable pub non_zero : Order → ℕ → ℕ → ℕ → Encoder
non_zero o size n v = if nat_lt n size then unsigned o size n (v - 1) else λ _. Err NonZeroWidth

-- the same in groups of `field` bits; the greatest number of the type has no value after it
unfoldable pub non_zero_vbr_decoder : {A : Type 0} → (ℕ → A) → Order → ℕ → ℕ → Decoder A
non_zero_vbr_decoder after o field size = and_then (vbr_decoder o field size (2 ^ size - 1)) (λ v. pure (after v))

-- `None` for 0, else the value of a number; `after` maps v to the value of v + 1
abbrev pub if_any : {A : Type 0} → (ℕ → A) → ℕ → Option A
if_any after zero = None
if_any after (suc v) = Some (after v)

-- the number of a value, 0 for `None`
abbrev pub number_or_zero : {A : Type 0} → (A → ℕ) → Option A → ℕ
number_or_zero number None = 0
number_or_zero number (Some x) = number x

-- an `Option` of a `NonZero`, of a type of `size` bits; `after` maps v to the value of v + 1, and 0 is `None`
unfoldable pub option_decoder : {A : Type 0} → (ℕ → A) → Order → ℕ → ℕ → Decoder (Option A)
option_decoder after o size n = and_then (unsigned_decoder o size n) (λ v. pure (if_any after v))

-- the same in groups of `field` bits
unfoldable pub option_vbr_decoder : {A : Type 0} → (ℕ → A) → Order → ℕ → ℕ → Decoder (Option A)
option_vbr_decoder after o field size = and_then (vbr_decoder o field size (2 ^ size)) (λ v. pure (if_any after v))

-- equal numbers make the same value
pub made-same : {A : Type 0} (make : (k : ℕ) → 0 < k → A) (m n : ℕ) (p : 0 < m) (q : 0 < n) → m ≡ n → make m p
    ≡ make n q
made-same make m n p q e = subst (λ k. (r : 0 < k) → make m p ≡ make k r) e (λ r. ap (make m) (le_prop p r)) q
