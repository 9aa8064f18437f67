-- Formats of one line: bits, numbers and bytes, and bytes up to what ends them. Import them as a module, as in
-- `atom.unsigned 32 20 refl`: most names are the names of calls.
use Rattle.std.proofs.Common.{◌≡◌, ℕ, ◌-◌, ◌*◌, ◌^◌, ◌<◌, Bool, true, ℤ, List, [], ◌∷◌, length, Option}
use Rattle.std.specs.Prelude.{nat_le, nat_lt}
use Rattle.std.specs.List.{All}
use Rattle.std.specs.Int.NonZero.{non_zero_u8_get, non_zero_u16_get, non_zero_u32_get, non_zero_u64_get, non_zero_u128_get}
use Rattle.std.specs.declared.num.NonZeroU8.{NonZeroU8}
use Rattle.std.specs.declared.num.NonZeroU16.{NonZeroU16}
use Rattle.std.specs.declared.num.NonZeroU32.{NonZeroU32}
use Rattle.std.specs.declared.num.NonZeroU64.{NonZeroU64}
use Rattle.std.specs.declared.num.NonZeroU128.{NonZeroU128}
use Rattle.std.proofs.lemmas.Bool.{ltb-true}
use Rattle.bitstream_count.specs.Unary.{unary as unary_bits}
use Rattle.bitstream_io.specs.Callers.{Order, FitsSignedBits, bit_decoder, unsigned_decoder, signed_decoder, bytes_decoder, unary_decoder, skip_decoder, option_decoder, if_any, number_or_zero, bit, buffer, zeros, unary_word}
use Rattle.bitstream_io.specs.Callers as call
use Rattle.bitstream_value.specs.NonZero.{non_zero_decoder}
use Rattle.bitstream_number.specs.Word.{residue}
use Rattle.bitstream_io.proofs.CallerLemmas.{bit-written, unsigned-written, signed-written, bytes-written, zeros-written, unary-written, non_zero-written, non_zero_u8-again, non_zero_u16-again, non_zero_u32-again, non_zero_u64-again, option_u8-again, option_u16-again, option_u32-again, option_u64-again, non_zero_u128-again, option_u128-again, unsigned-accepted, signed-accepted, non_zero-accepted}
pub use Rattle.bitstream_format.specs.Groups.{groups, signed_groups, ue, se}
use Rattle.bitstream_format.specs.Until.{IsUnended, until_decoder, until_size, until_writes}
use Rattle.bitstream_format.specs.UntilLaws.{until-back, until-packs}
use Rattle.bitstream_format.specs.Blocks.{IsBlock, blocks_decoder, blocks_size, blocks_writes}
use Rattle.bitstream_format.specs.BlocksLaws.{blocks-back, blocks-packs}
use Rattle.bitstream_format.specs.Format.{Plain, none_if, none_if-true}
use Rattle.bitstream_format.specs.InBytes.{in_bytes_decoder, in_bytes_word, signed_in_bytes_decoder, signed_in_bytes_word, in_bytes-goes, in_bytes-packs, signed_in_bytes-goes}
use Rattle.bitstream_format.specs.AtomLaws.{one-packs, bool-goes, unsigned-goes, signed-goes, bytes-goes, skip-goes, unary-goes, non_zero-goes, option-goes}

-- a flag of one bit
abbrev pub bool : Plain Bool
bool = record {
  read = λ o. bit_decoder;
  write = λ o b. bit b ∷ [];
  size = λ b. 1;
  facts = λ b. [];
  round_trip = λ o b fits. bool-goes b;
  packs = λ o b fits. one-packs (bit-written b);
  besides = λ x. [];
  accepted = λ o x at more all. tt;
}

-- an unsigned number of n bits, in a type of `size` bits
abbrev pub unsigned : (size n : ℕ) → nat_le n size ≡ true → Plain ℕ
unsigned size n le = record {
  read = λ o. unsigned_decoder o size n;
  write = λ o v. call.unsigned o size n v ∷ [];
  size = λ v. n;
  facts = λ v. (v < 2 ^ n) ∷ [];
  round_trip = λ o v fits. unsigned-goes o size n v le fits;
  packs = λ o v fits. one-packs (unsigned-written o size n v le fits);
  besides = λ v. none_if (nat_lt 0 n);
  accepted = λ o v at some all. unsigned-accepted o size n v at (none_if-true (nat_lt 0 n) some) all.0;
}

-- a signed number of n bits, in a type of `size` bits
abbrev pub signed : (size n : ℕ) → nat_le 1 n ≡ true → nat_le n size ≡ true → Plain ℤ
signed size n some le = record {
  read = λ o. signed_decoder o size n;
  write = λ o x. call.signed o size n x ∷ [];
  size = λ x. n;
  facts = λ x. FitsSignedBits n x ∷ [];
  round_trip = λ o x fits. signed-goes o size n x some le fits;
  packs = λ o x fits. one-packs (signed-written o size n x some le fits);
  besides = λ x. none_if (nat_lt 0 n);
  accepted = λ o x at some all. signed-accepted o size n x at (none_if-true (nat_lt 0 n) some) all.0;
}

-- an unsigned number of n bytes in the byte order p
abbrev pub in_bytes : Order → ℕ → Plain ℕ
in_bytes p n = record {
  read = λ o. in_bytes_decoder o p n;
  write = λ o v. in_bytes_word o p n v ∷ [];
  size = λ v. 8 * n;
  facts = λ v. (v < 2 ^ (8 * n)) ∷ [];
  round_trip = λ o v fits. in_bytes-goes o p n v fits;
  packs = λ o v fits. in_bytes-packs o p n v;
  besides = λ v. (v < 2 ^ (8 * n)) ∷ [];
  accepted = λ o v at fits all. fits;
}

-- a signed number of n bytes in the byte order p
abbrev pub signed_in_bytes : Order → (n : ℕ) → nat_lt 0 (8 * n) ≡ true → Plain ℤ
signed_in_bytes p n some = record {
  read = λ o. signed_in_bytes_decoder o p n;
  write = λ o x. signed_in_bytes_word o p n x ∷ [];
  size = λ x. 8 * n;
  facts = λ x. FitsSignedBits (8 * n) x ∷ [];
  round_trip = λ o x fits. signed_in_bytes-goes o p n x some fits;
  packs = λ o x fits. in_bytes-packs o p n (residue (8 * n) x);
  besides = λ x. FitsSignedBits (8 * n) x ∷ [];
  accepted = λ o x at fits all. fits;
}

-- n bytes
abbrev pub bytes : ℕ → Plain (List ℕ)
bytes n = record {
  read = λ o. bytes_decoder o n;
  write = λ o xs. buffer o xs ∷ [];
  size = λ xs. 8 * n;
  facts = λ xs. (length xs ≡ n) ∷ All (λ b. b < 256) xs ∷ [];
  round_trip = λ o xs fits. bytes-goes o n xs fits.0 fits.1;
  packs = λ o xs fits. one-packs (bytes-written o n xs fits.0);
  besides = λ xs. (length xs ≡ n) ∷ All (λ b. b < 256) xs ∷ [];
  accepted = λ o xs at fits all. fits;
}

-- n bits without a meaning: zeros when written, and any when read
abbrev pub pad : ℕ → Plain (Unit {0})
pad n = record {
  read = λ o. skip_decoder n;
  write = λ o x. zeros n ∷ [];
  size = λ x. n;
  facts = λ x. [];
  round_trip = λ o x fits. skip-goes n;
  packs = λ o x fits. one-packs (zeros-written n);
  besides = λ x. [];
  accepted = λ o x at more all. tt;
}

-- a unary number: k bits, and then the stop bit
abbrev pub unary : Bool → Plain ℕ
unary stop = record {
  read = λ o. unary_decoder stop;
  write = λ o k. unary_word stop k ∷ [];
  size = λ k. length (unary_bits stop k);
  facts = λ k. (k < 2 ^ 32) ∷ [];
  round_trip = λ o k fits. unary-goes stop k fits;
  packs = λ o k fits. one-packs (unary-written stop k);
  besides = λ k. (k < 2 ^ 32) ∷ [];
  accepted = λ o k at fits all. fits;
}

-- a number from 1 on, in n bits that hold the number less 1: `after k` is the value k + 1
abbrev pub non_zero : {A : Type 0} (after : ℕ → A) (get : A → ℕ) → ((x : A) → after (get x - 1) ≡ x) → (size n : ℕ)
    → nat_lt n size ≡ true → nat_le n size ≡ true → Plain A
non_zero after get again size n less le = record {
  read = λ o. non_zero_decoder after o size n;
  write = λ o x. call.non_zero o size n (get x) ∷ [];
  size = λ x. n;
  facts = λ x. (get x - 1 < 2 ^ n) ∷ [];
  round_trip = λ o x fits. non_zero-goes after o size n (get x) x less fits (again x);
  packs = λ o x fits. one-packs (non_zero-written o size n (get x) less fits);
  besides = λ x. none_if (nat_lt 0 n);
  accepted = λ o x at some all. non_zero-accepted o size n (get x) at less (none_if-true (nat_lt 0 n) some) all.0;
}

-- such a number or none, in n bits: 0 is none
abbrev pub option : {A : Type 0} (after : ℕ → A) (get : A → ℕ)
    → ((x : Option A) → if_any after (number_or_zero get x) ≡ x) → (size n : ℕ) → nat_le n size ≡ true → Plain (Option A)
option after get again size n le = record {
  read = λ o. option_decoder after o size n;
  write = λ o x. call.unsigned o size n (number_or_zero get x) ∷ [];
  size = λ x. n;
  facts = λ x. (number_or_zero get x < 2 ^ n) ∷ [];
  round_trip = λ o x fits. option-goes after o size n (number_or_zero get x) x le fits (again x);
  packs = λ o x fits. one-packs (unsigned-written o size n (number_or_zero get x) le fits);
  besides = λ x. none_if (nat_lt 0 n);
  accepted = λ o x at some all. unsigned-accepted o size n (number_or_zero get x) at (none_if-true (nat_lt 0 n) some) all.0;
}

-- a `NonZero<u8>` in n bits, which hold the number less 1
abbrev pub non_zero_u8 : (n : ℕ) → nat_lt n 8 ≡ true → nat_le n 8 ≡ true → Plain NonZeroU8
non_zero_u8 = non_zero call.non_zero_u8 non_zero_u8_get non_zero_u8-again 8

-- a `NonZero<u16>` in n bits, which hold the number less 1
abbrev pub non_zero_u16 : (n : ℕ) → nat_lt n 16 ≡ true → nat_le n 16 ≡ true → Plain NonZeroU16
non_zero_u16 = non_zero call.non_zero_u16 non_zero_u16_get non_zero_u16-again 16

-- a `NonZero<u32>` in n bits, which hold the number less 1
abbrev pub non_zero_u32 : (n : ℕ) → nat_lt n 32 ≡ true → nat_le n 32 ≡ true → Plain NonZeroU32
non_zero_u32 = non_zero call.non_zero_u32 non_zero_u32_get non_zero_u32-again 32

-- a `NonZero<u64>` in n bits, which hold the number less 1
abbrev pub non_zero_u64 : (n : ℕ) → nat_lt n 64 ≡ true → nat_le n 64 ≡ true → Plain NonZeroU64
non_zero_u64 = non_zero call.non_zero_u64 non_zero_u64_get non_zero_u64-again 64

-- a `NonZero<u128>` in n bits, which hold the number less 1
abbrev pub non_zero_u128 : (n : ℕ) → nat_lt n 128 ≡ true → nat_le n 128 ≡ true → Plain NonZeroU128
non_zero_u128 = non_zero call.non_zero_u128 non_zero_u128_get non_zero_u128-again 128

-- a `NonZero<u8>` or none in n bits: 0 is none
abbrev pub option_u8 : (n : ℕ) → nat_le n 8 ≡ true → Plain (Option NonZeroU8)
option_u8 = option call.non_zero_u8 non_zero_u8_get option_u8-again 8

-- a `NonZero<u16>` or none in n bits: 0 is none
abbrev pub option_u16 : (n : ℕ) → nat_le n 16 ≡ true → Plain (Option NonZeroU16)
option_u16 = option call.non_zero_u16 non_zero_u16_get option_u16-again 16

-- a `NonZero<u32>` or none in n bits: 0 is none
abbrev pub option_u32 : (n : ℕ) → nat_le n 32 ≡ true → Plain (Option NonZeroU32)
option_u32 = option call.non_zero_u32 non_zero_u32_get option_u32-again 32

-- a `NonZero<u64>` or none in n bits: 0 is none
abbrev pub option_u64 : (n : ℕ) → nat_le n 64 ≡ true → Plain (Option NonZeroU64)
option_u64 = option call.non_zero_u64 non_zero_u64_get option_u64-again 64

-- a `NonZero<u128>` or none in n bits: 0 is none
abbrev pub option_u128 : (n : ℕ) → nat_le n 128 ≡ true → Plain (Option NonZeroU128)
option_u128 = option call.non_zero_u128 non_zero_u128_get option_u128-again 128

-- bytes up to the first `stop`, which is no item
abbrev pub until : (stop : ℕ) → nat_lt stop 256 ≡ true → Plain (List ℕ)
until stop small = record {
  read = λ o. until_decoder o stop;
  write = λ o xs. until_writes o stop xs;
  size = until_size;
  facts = λ xs. IsUnended stop xs ∷ (length xs < 2 ^ 32) ∷ [];
  round_trip = λ o xs fits. until-back o stop (ltb-true stop 256 small) xs fits.0 fits.1;
  packs = λ o xs fits. until-packs o stop (ltb-true stop 256 small) xs fits.0;
  besides = λ xs. IsUnended stop xs ∷ (length xs < 2 ^ 32) ∷ [];
  accepted = λ o xs at fits all. fits;
}

-- blocks of bytes up to an empty one, which is no item
abbrev pub blocks : Plain (List (List ℕ))
blocks = record {
  read = blocks_decoder;
  write = blocks_writes;
  size = blocks_size;
  facts = λ xs. All IsBlock xs ∷ (length xs < 2 ^ 32) ∷ [];
  round_trip = λ o xs fits. blocks-back o xs fits.0 fits.1;
  packs = λ o xs fits. blocks-packs o xs fits.0;
  besides = λ xs. All IsBlock xs ∷ (length xs < 2 ^ 32) ∷ [];
  accepted = λ o xs at fits all. fits;
}
