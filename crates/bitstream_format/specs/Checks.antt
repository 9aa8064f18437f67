-- Checksums of bytes, as `./format` prints them: cyclic redundancy checks, and the Internet checksum.
use Rattle.std.specs.Prelude.{ℕ, zero, suc, ◌+◌, ◌-◌, ◌*◌, ◌/◌, ◌%◌, ◌==◌, min, nat_lt, if◌then◌else◌, List, [], ◌∷◌, length, bit_xor}

-- A remainder of n bits times x: its bits go up by one place, and if x^n comes out, the polynomial takes it away. `half` is
-- the number of the highest place.
abbrev pub high_step : ℕ → ℕ → ℕ → ℕ
high_step half polynomial crc = if nat_lt crc half then 2 * crc else bit_xor (2 * (crc - half)) polynomial

-- a remainder times x, if its bits and the bits of the polynomial are in the opposite order
abbrev pub low_step : ℕ → ℕ → ℕ
low_step polynomial crc = if crc % 2 == 0 then crc / 2 else bit_xor (crc / 2) polynomial

-- k steps
unfoldable pub steps : (ℕ → ℕ) → ℕ → ℕ → ℕ
steps step zero crc = crc
steps step (suc k) crc = step (steps step k crc)

-- The remainder after more bytes. Each is added at the places above `scale`, and then it takes eight steps. Only the lowest
-- eight bits of a byte count.
unfoldable pub crc_over : (ℕ → ℕ) → ℕ → ℕ → List ℕ → ℕ
crc_over step scale crc [] = crc
crc_over step scale crc (byte ∷ bytes) = crc_over step scale (steps step 8 (bit_xor crc (byte % 256 * scale))) bytes

-- the remainder of a CRC-32 in the opposite order after more bytes
abbrev pub crc32_state : ℕ → List ℕ → ℕ
crc32_state crc bytes = crc_over (low_step 0xEDB88320) 1 crc bytes

-- the remainder of the CRC-32 of MPEG-2 after more bytes
abbrev pub crc32_mpeg_state : ℕ → List ℕ → ℕ
crc32_mpeg_state crc bytes = crc_over (high_step 0x80000000 0x04C11DB7) 0x1000000 crc bytes

-- the remainder of the CRC-24 of Mode S after more bytes, in the highest 24 of 32 bits; the others are 0
abbrev pub crc24_state : ℕ → List ℕ → ℕ
crc24_state crc bytes = crc_over (high_step 0x80000000 0xFFF40900) 0x1000000 crc bytes

-- the remainder of a CRC-16 after more bytes
abbrev pub crc16_state : ℕ → List ℕ → ℕ
crc16_state crc bytes = crc_over (high_step 0x8000 0x1021) 0x100 crc bytes

-- the remainder of a CRC-16 in the opposite order after more bytes
abbrev pub crc16_low_state : ℕ → List ℕ → ℕ
crc16_low_state crc bytes = crc_over (low_step 0x8408) 1 crc bytes

-- the CRC-32 of Ethernet, PNG and gzip: by x^32 + x^26 + x^23 + x^22 + x^16 + x^12 + x^11 + x^10 + x^8 + x^7 + x^5 + x^4 +
-- x^2 + x + 1, in the opposite order, from all ones, and inverted
abbrev pub crc32 : List ℕ → ℕ
crc32 bytes = bit_xor (crc32_state 0xFFFFFFFF bytes) 0xFFFFFFFF

-- the CRC-32 of MPEG-2 sections (ISO/IEC 13818-1, annex A): by the same polynomial, from all ones
abbrev pub crc32_mpeg : List ℕ → ℕ
crc32_mpeg bytes = crc32_mpeg_state 0xFFFFFFFF bytes

-- the CRC-24 of Mode S replies and ADS-B messages (ICAO annex 10, volume IV, 3.1.2.3.3): by x^24 + x^23 + x^22 + x^21 +
-- x^20 + x^19 + x^18 + x^17 + x^16 + x^15 + x^14 + x^13 + x^12 + x^10 + x^3 + 1, from 0
abbrev pub crc24_adsb : List ℕ → ℕ
crc24_adsb bytes = crc24_state 0 bytes / 256

-- the CRC-16 of CCSDS frames (132.0-B, 4.1.6): by x^16 + x^12 + x^5 + 1, from all ones
abbrev pub crc16_ccitt : List ℕ → ℕ
crc16_ccitt bytes = crc16_state 0xFFFF bytes

-- the CRC-16 of X.25 and HDLC frames: by the same polynomial, in the opposite order, from all ones, and inverted
abbrev pub crc16_x25 : List ℕ → ℕ
crc16_x25 bytes = bit_xor (crc16_low_state 0xFFFF bytes) 0xFFFF

-- the CRC-16 of IEEE 802.15.4 frames: in the opposite order, from 0
abbrev pub crc16_kermit : List ℕ → ℕ
crc16_kermit bytes = crc16_low_state 0 bytes

-- the sum of two numbers of 16 bits, whose carry is added again
abbrev pub end_around : ℕ → ℕ → ℕ
end_around a b = if nat_lt (a + b) 65536 then a + b else a + b - 65535

-- a byte in a number of 16 bits: it counts 256 at an even place, and 1 at another one
abbrev pub place16 : ℕ → ℕ → ℕ
place16 at byte = if at % 2 == 0 then 256 * byte else byte

-- the sum after more bytes, `at` bytes after the first one
unfoldable pub sum16_state : ℕ → ℕ → List ℕ → ℕ
sum16_state sum at [] = sum
sum16_state sum at (byte ∷ bytes) =
    sum16_state (end_around sum (place16 at byte)) (at + 1) bytes

-- the Internet checksum (RFC 1071): the inverse of the sum of the bytes as numbers of 16 bits, a last one filled up by 0
abbrev pub sum16 : List ℕ → ℕ
sum16 bytes = 65535 - sum16_state 0 0 bytes

-- the same for UDP (RFC 768): all ones in place of 0, which means that there is no checksum
abbrev pub sum16_udp : List ℕ → ℕ
sum16_udp bytes = if sum16 bytes == 0 then 65535 else sum16 bytes

-- the number of bytes; 2^64 - 1 if there are more
abbrev pub byte_count : List ℕ → ℕ
byte_count bytes = min (length bytes) 18446744073709551615

-- the byte of a number of 8 bits
abbrev pub bytes1 : ℕ → List ℕ
bytes1 x = x ∷ []

-- the bytes of a number of 16 bits, the highest first
abbrev pub bytes2 : ℕ → List ℕ
bytes2 x = x / 256 ∷ x % 256 ∷ []

-- the bytes of a number of 32 bits, the highest first
abbrev pub bytes4 : ℕ → List ℕ
bytes4 x = x / 16777216 ∷ x / 65536 % 256 ∷ x / 256 % 256 ∷ x % 256 ∷ []
