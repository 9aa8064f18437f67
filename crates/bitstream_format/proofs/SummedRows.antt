-- Checksums of lines whose bytes are `123456789`, and of lines that do not fit.
use Rattle.std.proofs.Common.{◌≡◌, ◌∷◌, [], ℕ, List, refl}
use Rattle.bitstream_io.specs.Callers.{High, Low, buffer}
use Rattle.bitstream_io.specs.Word.{bytes_of, digits, digits_number}
use Rattle.bitstream_io.specs.WriteTable.{unsigned}
use Rattle.bitstream_format.specs.Checks.{crc16_x25, crc32_mpeg, crc_over, steps, sum16, sum16_state}
use Rattle.bitstream_format.specs.Summed.{lines_sum, whole_bytes}

-- the first byte as two numbers of 4 bits
nibbles_row : lines_sum crc32_mpeg High (unsigned High 8 4 3 ∷ unsigned High 8 4 1 ∷ buffer High (50 ∷ 51 ∷ 52 ∷ 53 ∷ 54 ∷
    55 ∷ 56 ∷ 57 ∷ []) ∷ []) ≡ 0x0376E6E7
unfolding lines_sum whole_bytes unsigned bytes_of digits digits_number crc_over steps
nibbles_row = refl

-- zeros fill up the last byte
padded_row : lines_sum sum16 High (unsigned High 8 4 15 ∷ []) ≡ 0x0FFF
unfolding lines_sum whole_bytes unsigned bytes_of digits digits_number sum16_state
padded_row = refl

-- 300 has more than 8 bits
misfit_row : lines_sum sum16 Low (unsigned Low 16 8 300 ∷ []) ≡ 0
unfolding lines_sum unsigned
misfit_row = refl
