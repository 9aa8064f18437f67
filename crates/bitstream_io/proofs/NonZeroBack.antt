-- A value of `NonZero<u8>`, or of its like, is the one that its number gives back: `calls_round_trip` asks for that fact.
use Rattle.std.proofs.Common.{◌≡◌, ◌∙◌, ℕ, zero, suc, ◌+◌, ◌-◌, ◌<◌, Option, Some, None, refl, ap, arith}
use Rattle.std.specs.Int.NonZero.{non_zero_u8_get, non_zero_u16_get, non_zero_u32_get, non_zero_u64_get, non_zero_u128_get}
use Rattle.std.specs.declared.num.NonZeroU8.{NonZeroU8}
use Rattle.std.specs.declared.num.NonZeroU16.{NonZeroU16}
use Rattle.std.specs.declared.num.NonZeroU32.{NonZeroU32}
use Rattle.std.specs.declared.num.NonZeroU64.{NonZeroU64}
use Rattle.std.specs.declared.num.NonZeroU128.{NonZeroU128}
use Rattle.bitstream_value.specs.NonZero.{if_any, made-same, number_or_zero}
use Rattle.bitstream_io.specs.NonZeroTypes.{non_zero_u8, non_zero_u16, non_zero_u32, non_zero_u64, non_zero_u128}

-- what is made of a number is made again of 1 and the rest of it
made-again : {A : Type 0} (make : (k : ℕ) → 0 < k → A) (k : ℕ) (p : 0 < k - 1 + 1) (q : 0 < k)
    → make (k - 1 + 1) p ≡ make k q
made-again make k p q = made-same make (k - 1 + 1) k p q (omega arith)

pub non_zero_u8-again : (x : NonZeroU8) → non_zero_u8 (x.value - 1) ≡ x
non_zero_u8-again x = made-again (λ k p. record { value = k; ok = p }) x.value _ x.ok

pub non_zero_u16-again : (x : NonZeroU16) → non_zero_u16 (x.value - 1) ≡ x
non_zero_u16-again x = made-again (λ k p. record { value = k; ok = p }) x.value _ x.ok

pub non_zero_u32-again : (x : NonZeroU32) → non_zero_u32 (x.value - 1) ≡ x
non_zero_u32-again x = made-again (λ k p. record { value = k; ok = p }) x.value _ x.ok

pub non_zero_u64-again : (x : NonZeroU64) → non_zero_u64 (x.value - 1) ≡ x
non_zero_u64-again x = made-again (λ k p. record { value = k; ok = p }) x.value _ x.ok

pub non_zero_u128-again : (x : NonZeroU128) → non_zero_u128 (x.value - 1) ≡ x
non_zero_u128-again x = made-again (λ k p. record { value = k; ok = p }) x.value _ x.ok

-- and so is an `Option` of one, where 0 means none
if_any-number : {A : Type 0} (after : ℕ → A) (v : ℕ) (x : A) → 0 < v → after (v - 1) ≡ x → if_any after v ≡ Some x
if_any-number after zero x some is = absurd (omega arith)
if_any-number after (suc v) x some is =
    let same : v ≡ suc v - 1 = omega arith in
    ap (λ (k : ℕ). Some (after k)) same ∙ ap Some is

pub option_u8-again : (x : Option NonZeroU8) → if_any non_zero_u8 (number_or_zero non_zero_u8_get x) ≡ x
option_u8-again None = refl
option_u8-again (Some x) = if_any-number non_zero_u8 x.value x x.ok (non_zero_u8-again x)

pub option_u16-again : (x : Option NonZeroU16) → if_any non_zero_u16 (number_or_zero non_zero_u16_get x) ≡ x
option_u16-again None = refl
option_u16-again (Some x) = if_any-number non_zero_u16 x.value x x.ok (non_zero_u16-again x)

pub option_u32-again : (x : Option NonZeroU32) → if_any non_zero_u32 (number_or_zero non_zero_u32_get x) ≡ x
option_u32-again None = refl
option_u32-again (Some x) = if_any-number non_zero_u32 x.value x x.ok (non_zero_u32-again x)

pub option_u64-again : (x : Option NonZeroU64) → if_any non_zero_u64 (number_or_zero non_zero_u64_get x) ≡ x
option_u64-again None = refl
option_u64-again (Some x) = if_any-number non_zero_u64 x.value x x.ok (non_zero_u64-again x)

pub option_u128-again : (x : Option NonZeroU128) → if_any non_zero_u128 (number_or_zero non_zero_u128_get x) ≡ x
option_u128-again None = refl
option_u128-again (Some x) = if_any-number non_zero_u128 x.value x x.ok (non_zero_u128-again x)
