-- What calls do to a reader of C.
use Rattle.std.specs.Prelude.{◌≡◌, ℕ, ◌+◌, ◌-◌, ◌*◌, ◌^◌, ◌<◌, ◌≤◌, Bool, true, length, take, drop}
use Rattle.bitstream_io.specs.Callers.{Order, bits, number}
use Rattle.bitstream_io.specs.Unary.{lead}
use Rattle.bits_c.specs.declared.reader.BitsReader.{BitsReader}

-- `count` bits are left, and the place after them is below 2^64: this lacks only in more than 2^61 bytes
abbrev pub HasLeft : BitsReader → ℕ → Type 0
HasLeft reader count = (reader.at + count ≤ 8 * length reader.bytes.now) × (reader.at + count < 2 ^ 64)

-- it reads the same bytes at the same place
pub record IsSame (old new : BitsReader) : Type 0 where
  pub bytes : new.bytes.now ≡ old.bytes.now
  pub at : new.at ≡ old.at

-- it reads the same bytes, `count` bits further on
pub record Advanced (count : ℕ) (old new : BitsReader) : Type 0 where
  pub bytes : new.bytes.now ≡ old.bytes.now
  pub at : new.at ≡ old.at + count

-- the number of bits before the first stop bit, or of all bits that are left if there is none
abbrev pub leading : Order → Bool → BitsReader → ℕ
leading o stop reader = lead stop (drop reader.at (bits o reader.bytes.now))

-- the exponential Golomb number at the place: n zeros and a one were counted, and n bits follow
abbrev pub golomb : Order → BitsReader → ℕ
golomb o reader =
    let n = leading o true reader in
    2 ^ n - 1 + number o (take n (drop (reader.at + n + 1) (bits o reader.bytes.now)))
