-- The values of the `NonZero` types, by names for the definitions of a caller.
use Rattle.std.specs.Prelude.{ℕ}
use Rattle.std.specs.declared.num.NonZeroU8.{NonZeroU8}
use Rattle.std.specs.declared.num.NonZeroU16.{NonZeroU16}
use Rattle.std.specs.declared.num.NonZeroU32.{NonZeroU32}
use Rattle.std.specs.declared.num.NonZeroU64.{NonZeroU64}
use Rattle.std.specs.declared.num.NonZeroU128.{NonZeroU128}
use Rattle.bitstream_count.specs.Codec.{Decoder}
use Rattle.bitstream_number.specs.Word.{Order}
use Rattle.bitstream_value.specs.NonZero.{non_zero_decoder}
use Rattle.bitstream_value.specs.contracts.integer.non_zero.NonZeroU8NonZeroInteger.TheImpl as u8s
use Rattle.bitstream_value.specs.contracts.integer.non_zero.NonZeroU16NonZeroInteger.TheImpl as u16s
use Rattle.bitstream_value.specs.contracts.integer.non_zero.NonZeroU32NonZeroInteger.TheImpl as u32s
use Rattle.bitstream_value.specs.contracts.integer.non_zero.NonZeroU64NonZeroInteger.TheImpl as u64s
use Rattle.bitstream_value.specs.contracts.integer.non_zero.NonZeroU128NonZeroInteger.TheImpl as u128s

-- the value of n + 1 as a `NonZero<u8>`
abbrev pub non_zero_u8 : ℕ → NonZeroU8
non_zero_u8 n = u8s.after-value.it n

-- the value of n + 1 as a `NonZero<u16>`
abbrev pub non_zero_u16 : ℕ → NonZeroU16
non_zero_u16 n = u16s.after-value.it n

-- the value of n + 1 as a `NonZero<u32>`
abbrev pub non_zero_u32 : ℕ → NonZeroU32
non_zero_u32 n = u32s.after-value.it n

-- the value of n + 1 as a `NonZero<u64>`
abbrev pub non_zero_u64 : ℕ → NonZeroU64
non_zero_u64 n = u64s.after-value.it n

-- the value of n + 1 as a `NonZero<u128>`
abbrev pub non_zero_u128 : ℕ → NonZeroU128
non_zero_u128 n = u128s.after-value.it n

-- the read of a `NonZero<u8>` in n bits
abbrev pub non_zero_u8_decoder : Order → ℕ → Decoder NonZeroU8
non_zero_u8_decoder o n = non_zero_decoder non_zero_u8 o 8 n

-- the read of a `NonZero<u16>` in n bits
abbrev pub non_zero_u16_decoder : Order → ℕ → Decoder NonZeroU16
non_zero_u16_decoder o n = non_zero_decoder non_zero_u16 o 16 n

-- the read of a `NonZero<u32>` in n bits
abbrev pub non_zero_u32_decoder : Order → ℕ → Decoder NonZeroU32
non_zero_u32_decoder o n = non_zero_decoder non_zero_u32 o 32 n

-- the read of a `NonZero<u64>` in n bits
abbrev pub non_zero_u64_decoder : Order → ℕ → Decoder NonZeroU64
non_zero_u64_decoder o n = non_zero_decoder non_zero_u64 o 64 n

-- the read of a `NonZero<u128>` in n bits
abbrev pub non_zero_u128_decoder : Order → ℕ → Decoder NonZeroU128
non_zero_u128_decoder o n = non_zero_decoder non_zero_u128 o 128 n
