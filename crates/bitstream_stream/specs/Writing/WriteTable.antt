-- The write table: the encoder of each call, which may depend on the number of bits written before.
use Rattle.std.specs.Prelude.{ℕ, ℤ, pos, negsuc, ◌-◌, ◌^◌, ◌==◌, ◌||◌, nat_lt, if◌then◌else◌, Bool, false, List, [], ◌∷◌, map, replicate, Ok, Err}
use Rattle.bitstream_stream.specs.Alignment.{to_boundary}
use Rattle.bitstream_number.specs.Word.{Order, word, signed_word, zig, bits, count_width}
use Rattle.bitstream_count.specs.Codec.{Encoder}
use Rattle.bitstream_count.specs.Unary.{unary}
use Rattle.bitstream_count.specs.Vbr.{vbr_word}
use Rattle.bitstream_count.specs.declared.error.Error.TheVariants.{Checked, NoSignBit}
use Rattle.bitstream_count.specs.declared.checked_error.CheckedError.TheVariants.{ExcessiveBits, ExcessiveValue}

-- these bits, whatever was written before
abbrev pub plain : List Bool → Encoder
plain x _ = Ok x

-- one bit
abbrev pub bit : Bool → Encoder
bit b = plain (b ∷ [])

-- the calls that write a list of bits, a bit each
abbrev pub bit_by_bit : List Bool → List Encoder
bit_by_bit w = map bit w

-- the encoding of v, a number of a type of `size` bits, in n bits; at 0 bits it is empty for any number
unfoldable pub unsigned : Order → ℕ → ℕ → ℕ → Encoder
unsigned o size n v _ =
    if nat_lt size n then Err (Checked ExcessiveBits)
    else (if (n == 0) || nat_lt v (2 ^ n) then Ok (word o n v) else Err (Checked ExcessiveValue))

-- true if n bits hold x as a two's complement
abbrev pub fits_signed : ℕ → ℤ → Bool
fits_signed n (pos k) = nat_lt k (2 ^ (n - 1))
fits_signed n (negsuc k) = nat_lt k (2 ^ (n - 1))

-- the two's complement in n bits of x, a number of a type of `size` bits
unfoldable pub signed : Order → ℕ → ℕ → ℤ → Encoder
signed o size n x _ =
    if n == 0 then Err NoSignBit
    else (if nat_lt size n then Err (Checked ExcessiveBits)
    else (if fits_signed n x then Ok (signed_word o n x) else Err (Checked ExcessiveValue)))

-- a unary number: k bits that are not the stop bit, and then the stop bit
abbrev pub unary_word : Bool → ℕ → Encoder
unary_word stop k = plain (unary stop k)

-- a count, in as few bits as its greatest number takes
abbrev pub count : Order → ℕ → ℕ → Encoder
count o max n = plain (word o (count_width max) n)

-- zeros up to a multiple of 8
abbrev pub align : Encoder
align len = Ok (replicate (to_boundary len) false)

-- bytes
abbrev pub buffer : Order → List ℕ → Encoder
buffer o bytes = plain (bits o bytes)

-- n zeros
abbrev pub zeros : ℕ → Encoder
zeros n = plain (replicate n false)

-- a number in groups of `field` bits
abbrev pub vbr : Order → ℕ → ℕ → Encoder
vbr o field v = plain (vbr_word o field v)

-- a signed number in groups, by its place in the zigzag order 0, -1, 1, -2, 2 and so on
abbrev pub signed_vbr : Order → ℕ → ℤ → Encoder
signed_vbr o field x = vbr o field (zig x)
