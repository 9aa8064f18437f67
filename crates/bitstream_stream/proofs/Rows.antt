-- Worked rows, by the definitions alone.
use Rattle.std.specs.Prelude.{pos, negsuc, map, replicate, ◌-◌, ◌^◌}
use Rattle.std.proofs.Common.{◌≡◌, ℕ, List, [], ◌∷◌, ◌++◌, drop, Bool, true, false, Some, None, Ok, Err, refl}
use Rattle.bitstream_count.specs.declared.checked_error.CheckedError.TheVariants.{ExcessiveValue}
use Rattle.bitstream_count.specs.declared.error.Error.TheVariants.{Checked, ReadBits, NoSignBit, VariableWidthOverflow, RedundantGroup}
use Rattle.bitstream_count.specs.Codec.{Done, Encoder, and_then}
use Rattle.bitstream_count.specs.Vbr.{groups, groups_at}
use Rattle.bitstream_number.specs.Word.{Order, High, Low, digits, digits_number, bits}
use Rattle.bitstream_stream.specs.Reading.ReadTable.{bit_decoder, unsigned_decoder, signed_decoder, const_decoder, unary_decoder, count_decoder, align_decoder, groups_decoder, vbr_decoder, any_vbr_decoder, signed_groups_decoder, signed_vbr_decoder}
use Rattle.bitstream_stream.specs.Sequence.{read_sequence, write_sequence, write_refusals}
use Rattle.bitstream_stream.specs.Writing.WriteTable.{unsigned, unary_word, align, vbr, signed_vbr}

-- B1 ED 3B C1
four_bytes : List ℕ
four_bytes = 177 ∷ 237 ∷ 59 ∷ 193 ∷ []

-- the bits left after the first p bits
left_of : Order → ℕ → List Bool
left_of o p = drop p (bits o four_bytes)

-- the widths of five numbers, and one bit more
widths : List ℕ
widths = 2 ∷ 3 ∷ 5 ∷ 3 ∷ 19 ∷ 1 ∷ []

-- ---- numbers

numbers :
    (read_sequence (map (unsigned_decoder High 32) widths) 0 (bits High four_bytes)
    ≡ (Ok 2, 2) ∷ (Ok 6, 5) ∷ (Ok 7, 10) ∷ (Ok 5, 13) ∷ (Ok 342977, 32) ∷ [])
    × (read_sequence (map (unsigned_decoder Low 32) widths) 0 (bits Low four_bytes)
    ≡ (Ok 1, 2) ∷ (Ok 4, 5) ∷ (Ok 13, 10) ∷ (Ok 3, 13) ∷ (Ok 395743, 32) ∷ [])
unfolding unsigned_decoder digits digits_number four_bytes widths
numbers = (refl, refl)

-- ---- signed numbers

signed_numbers :
    (read_sequence (map (signed_decoder High 32) widths) 0 (bits High four_bytes)
    ≡ (Ok (negsuc 1), 2) ∷ (Ok (negsuc 1), 5) ∷ (Ok (pos 7), 10) ∷ (Ok (negsuc 2), 13) ∷ (
      Ok (negsuc 181310),
      32,
    ) ∷ [])
    × (read_sequence (map (signed_decoder Low 32) widths) 0 (bits Low four_bytes)
    ≡ (Ok (pos 1), 2) ∷ (Ok (negsuc 3), 5) ∷ (Ok (pos 13), 10) ∷ (Ok (pos 3), 13) ∷ (Ok (negsuc 128544), 32) ∷ [])
    × ((signed_decoder High 8 0).reads 0 (left_of High 0) ≡ Done 0 (Err NoSignBit))
    × ((signed_decoder High 8 9).reads 0 (left_of High 0) ≡ Done 0 (Err ReadBits))
unfolding signed_decoder digits digits_number four_bytes widths left_of
signed_numbers = (refl, refl, refl, refl)

-- ---- bits, constants, counts and alignment

single_calls :
    (bit_decoder.reads 0 (left_of High 0) ≡ Done 1 (Ok true))
    × (bit_decoder.reads 1 (left_of Low 1) ≡ Done 1 (Ok false))
    × ((const_decoder High 4 11).reads 0 (left_of High 0) ≡ Done 4 (Ok true))
    × ((const_decoder Low 4 11).reads 0 (left_of Low 0) ≡ Done 4 (Ok false))
    × ((const_decoder High 0 1).reads 0 (left_of High 0) ≡ Done 0 (Ok false))
    × ((count_decoder High 7).reads 0 (bits High (160 ∷ [])) ≡ Done 3 (Ok 5))
    × (align_decoder.reads 3 (left_of High 3) ≡ Done 5 (Ok tt))
    × (align_decoder.reads 8 (left_of Low 8) ≡ Done 0 (Ok tt))
unfolding digits left_of four_bytes const_decoder digits_number count_decoder align_decoder
single_calls = (refl, refl, refl, refl, refl, refl, refl, refl)

-- ---- runs

runs :
    (read_sequence (replicate 5 (unary_decoder false)) 0 (bits High four_bytes)
    ≡ (Ok 1, 2) ∷ (Ok 2, 5) ∷ (Ok 0, 6) ∷ (Ok 0, 7) ∷ (Ok 4, 12) ∷ [])
    × (read_sequence (replicate 5 (unary_decoder true)) 0 (bits High four_bytes)
    ≡ (Ok 0, 1) ∷ (Ok 1, 3) ∷ (Ok 0, 4) ∷ (Ok 3, 8) ∷ (Ok 0, 9) ∷ [])
    × (read_sequence (replicate 5 (unary_decoder false)) 0 (bits Low four_bytes)
    ≡ (Ok 1, 2) ∷ (Ok 0, 3) ∷ (Ok 0, 4) ∷ (Ok 2, 7) ∷ (Ok 2, 10) ∷ [])
    × (read_sequence (replicate 5 (unary_decoder true)) 0 (bits Low four_bytes)
    ≡ (Ok 0, 1) ∷ (Ok 3, 5) ∷ (Ok 0, 6) ∷ (Ok 1, 8) ∷ (Ok 0, 9) ∷ [])
    × (write_sequence (unary_word true 40 ∷ align ∷ []) 0 ≡ bits High (replicate 5 0 ++ 128 ∷ []))
    × (write_sequence (unary_word false 8 ∷ align ∷ []) 0 ≡ bits Low (255 ∷ 0 ∷ []))
unfolding unary_decoder digits four_bytes
runs = (refl, refl, refl, refl, refl, refl)

-- ---- writes

-- 7 zeros, the greatest number of 128 bits, and an alignment
long_calls : Order → List Encoder
long_calls o = unsigned o 8 7 0 ∷ unsigned o 128 128 (2 ^ 128 - 1) ∷ align ∷ []

-- numbers in 4 bits, of which the third does not fit
misfit_calls : List Encoder
misfit_calls = unsigned High 8 4 1 ∷ unsigned High 8 4 2 ∷ unsigned High 8 4 16 ∷ unsigned High 8 4 3 ∷ []

writes :
    (write_sequence (long_calls High) 0 ≡ bits High (1 ∷ replicate 15 255 ++ 254 ∷ []))
    × (write_sequence (long_calls Low) 0 ≡ bits Low (128 ∷ replicate 15 255 ++ 127 ∷ []))
    × (write_sequence misfit_calls 0 ≡ bits High (18 ∷ []) ++ false ∷ false ∷ true ∷ true ∷ [])
    × (write_refusals misfit_calls 0 ≡ None ∷ None ∷ Some (Checked ExcessiveValue) ∷ None ∷ [])
unfolding unsigned digits long_calls misfit_calls
writes = (refl, refl, refl, refl)

-- ---- variable width

variable_width :
    (vbr High 4 8 0 ≡ Ok (bits High (129 ∷ [])))
    × (vbr Low 4 8 0 ≡ Ok (bits Low (24 ∷ [])))
    × (vbr High 2 255 0 ≡ Ok (bits High (255 ∷ 253 ∷ [])))
    × (write_sequence (signed_vbr High 4 (negsuc 127) ∷ align ∷ []) 0 ≡ bits High (255 ∷ 48 ∷ []))
    × (read_sequence (replicate 4 (vbr_decoder High 4 8 (2 ^ 8))) 0 (bits High four_bytes)
    ≡ (Ok 11, 8) ∷ (Ok 238, 20) ∷ (Ok 99, 32) ∷ [])
    × (read_sequence (replicate 4 (signed_vbr_decoder High 4 8)) 0 (bits High four_bytes)
    ≡ (Ok (negsuc 5), 8) ∷ (Ok (pos 119), 20) ∷ (Ok (negsuc 49), 32) ∷ [])
    -- groups that go on past the type
    × ((vbr_decoder High 2 8 (2 ^ 8)).reads 0 (bits High (255 ∷ 255 ∷ [])) ≡ Done 16 (Err VariableWidthOverflow))
    -- a sum that is too great, and the greatest number where one less is the limit
    × ((vbr_decoder High 4 8 (2 ^ 8)).reads 0 (bits High (136 ∷ 64 ∷ [])) ≡ Done 12 (Err VariableWidthOverflow))
    × ((vbr_decoder High 4 8 (2 ^ 8 - 1)).reads 0 (bits High (255 ∷ 48 ∷ [])) ≡ Done 12 (Err VariableWidthOverflow))
unfolding groups digits groups_decoder groups_at digits_number four_bytes signed_groups_decoder and_then
variable_width = (refl, refl, refl, refl, refl, refl, refl, refl, refl)

-- groups of zeros after others, read strictly and leniently
redundant_groups :
    ((vbr_decoder High 4 8 (2 ^ 8)).reads 0 (bits High (128 ∷ [])) ≡ Done 8 (Err RedundantGroup))
    × ((any_vbr_decoder High 4 8 (2 ^ 8)).reads 0 (bits High (128 ∷ [])) ≡ Done 8 (Ok 0))
    × ((vbr_decoder High 4 8 (2 ^ 8)).reads 0 (bits High (144 ∷ [])) ≡ Done 8 (Err RedundantGroup))
    × ((any_vbr_decoder High 4 8 (2 ^ 8)).reads 0 (bits High (144 ∷ [])) ≡ Done 8 (Ok 1))
    × ((vbr_decoder High 4 8 (2 ^ 8)).reads 0 (bits High (136 ∷ 0 ∷ [])) ≡ Done 12 (Err RedundantGroup))
    × ((any_vbr_decoder High 4 8 (2 ^ 8)).reads 0 (bits High (136 ∷ 0 ∷ [])) ≡ Done 12 (Ok 0))
    × ((vbr_decoder High 4 8 (2 ^ 8)).reads 0 (bits High (136 ∷ 128 ∷ [])) ≡ Done 12 (Err VariableWidthOverflow))
    × ((any_vbr_decoder High 4 8 (2 ^ 8)).reads 0 (bits High (136 ∷ 128 ∷ [])) ≡ Done 12 (Err VariableWidthOverflow))
    × ((vbr_decoder High 4 8 (2 ^ 8)).reads 0 (bits High (0 ∷ [])) ≡ Done 4 (Ok 0))
    × ((any_vbr_decoder High 4 8 (2 ^ 8)).reads 0 (bits High (0 ∷ [])) ≡ Done 4 (Ok 0))
unfolding digits groups_decoder groups_at digits_number
redundant_groups = (refl, refl, refl, refl, refl, refl, refl, refl, refl, refl)
