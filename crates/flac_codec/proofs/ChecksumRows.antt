-- Checksums from outside.
use Rattle.std.proofs.Common.{◌≡◌, [], ◌∷◌, refl}
use Rattle.flac_codec.specs.Checksum.{crc16, crc8, times_power, with_bytes}

-- the check values of the bytes "123456789": of CRC-8/SMBUS and of CRC-16/UMTS
check_values : (crc8 (49 ∷ 50 ∷ 51 ∷ 52 ∷ 53 ∷ 54 ∷ 55 ∷ 56 ∷ 57 ∷ []) ≡ 0xf4)
    × (crc16 (49 ∷ 50 ∷ 51 ∷ 52 ∷ 53 ∷ 54 ∷ 55 ∷ 56 ∷ 57 ∷ []) ≡ 0xfee8)
unfolding times_power with_bytes
check_values = (refl, refl)
