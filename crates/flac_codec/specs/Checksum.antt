-- The two checksums of a frame (RFC 9639, sections 9.1.8 and 9.3): the remainder of the bytes, as a polynomial over the
-- two numbers 0 and 1 with the highest bit first, times x^8 or x^16, by a polynomial of that degree.
use Rattle.std.specs.Prelude.{ℕ, zero, suc, ◌-◌, ◌*◌, ◌%◌, ◌^◌, nat_lt, if◌then◌else◌, List, [], ◌∷◌, bit_xor}

-- a remainder times x: its bits go up by one place, and if x^n comes out, the polynomial takes it away
abbrev pub times_x : ℕ → ℕ → ℕ → ℕ
times_x n polynomial remainder =
    if nat_lt remainder (2 ^ (n - 1)) then 2 * remainder else bit_xor (2 * remainder % 2 ^ n) polynomial

-- a remainder times x^k
unfoldable pub times_power : ℕ → ℕ → ℕ → ℕ → ℕ
times_power n polynomial zero remainder = remainder
times_power n polynomial (suc k) remainder = times_x n polynomial (times_power n polynomial k remainder)

-- the remainder after one more byte, which is added in the highest bits
abbrev pub with_byte : ℕ → ℕ → ℕ → ℕ → ℕ
with_byte n polynomial remainder byte = times_power n polynomial 8 (bit_xor remainder (byte * 2 ^ (n - 8)))

-- the remainder after more bytes
unfoldable pub with_bytes : ℕ → ℕ → ℕ → List ℕ → ℕ
with_bytes n polynomial remainder [] = remainder
with_bytes n polynomial remainder (byte ∷ bytes) = with_bytes n polynomial (with_byte n polynomial remainder byte) bytes

-- the checksum of a frame's header, by x^8 + x^2 + x + 1
abbrev pub crc8 : List ℕ → ℕ
crc8 bytes = with_bytes 8 0x07 0 bytes

-- the checksum of a frame, by x^16 + x^15 + x^2 + 1
abbrev pub crc16 : List ℕ → ℕ
crc16 bytes = with_bytes 16 0x8005 0 bytes
