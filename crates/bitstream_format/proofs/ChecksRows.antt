-- The checksums of `123456789`, of an IPv4 header and of an ADS-B message.
use Rattle.std.proofs.Common.{◌≡◌, ◌∷◌, [], ℕ, List, refl}
use Rattle.bitstream_format.specs.Checks.{crc16_ccitt, crc16_kermit, crc16_x25, crc24_adsb, crc32, crc32_mpeg, crc_over, steps, sum16, sum16_state}

nine : List ℕ
nine = 49 ∷ 50 ∷ 51 ∷ 52 ∷ 53 ∷ 54 ∷ 55 ∷ 56 ∷ 57 ∷ []

crc32_row : crc32 nine ≡ 0xCBF43926
unfolding nine crc_over steps
crc32_row = refl

crc32_mpeg_row : crc32_mpeg nine ≡ 0x0376E6E7
unfolding nine crc_over steps
crc32_mpeg_row = refl

crc16_ccitt_row : crc16_ccitt nine ≡ 0x29B1
unfolding nine crc_over steps
crc16_ccitt_row = refl

crc16_x25_row : crc16_x25 nine ≡ 0x906E
unfolding nine crc_over steps
crc16_x25_row = refl

crc16_kermit_row : crc16_kermit nine ≡ 0x2189
unfolding nine crc_over steps
crc16_kermit_row = refl

header : List ℕ
header = 69 ∷ 0 ∷ 0 ∷ 115 ∷ 0 ∷ 0 ∷ 64 ∷ 0 ∷ 64 ∷ 17 ∷ 192 ∷ 168 ∷ 0 ∷ 1 ∷ 192 ∷ 168 ∷ 0 ∷ 199 ∷ []

sum16_row : sum16 header ≡ 0xB861
unfolding header sum16_state
sum16_row = refl

-- 8D4840D6202CC371C32CE0576098, an identification of the flight KLM1023
message : List ℕ
message = 0x8D ∷ 0x48 ∷ 0x40 ∷ 0xD6 ∷ 0x20 ∷ 0x2C ∷ 0xC3 ∷ 0x71 ∷ 0xC3 ∷ 0x2C ∷ 0xE0 ∷ []

crc24_adsb_row : crc24_adsb message ≡ 0x576098
unfolding message crc_over steps
crc24_adsb_row = refl
