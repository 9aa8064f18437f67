-- Made by `./format` from formats/flac_start.fields: edit that file and make this one anew.
-- Worked rows of a `FlacStart`.
use Rattle.bitstream_callers.specs.FlacStart.{flac_start_decoder, flac_start_writes}
use Rattle.bitstream_io.specs.Codec.{and_then}
use Rattle.bitstream_io.specs.Word.{digits, digits_number}
use Rattle.bitstream_io.specs.WriteTable.{unsigned}
use Rattle.bitstream_io.specs.ReadTable.{unsigned_decoder, const_decoder}
use Rattle.bitstream_callers.specs.declared.flac_start.FlacStart.{FlacStart}
use Rattle.bitstream_callers.specs.declared.flac_start.FlacStartError.TheVariants.{NoFlac}
use Rattle.std.proofs.Common.{◌≡◌, ◌++◌, ◌∷◌, [], ℕ, false, List, Ok, Err, length, refl}
use Rattle.bitstream_io.specs.Callers.{Done, EndOfInput, High, bits, align, write_sequence, sure_answer}

row_0 : List ℕ
row_0 = 102 ∷ 76 ∷ 97 ∷ 67 ∷ 0 ∷ 0 ∷ 0 ∷ 34 ∷ []

value_0 : FlacStart
value_0 = record {
  block = record { last = false; kind = 0; size = 34 };
}

written_0 : (write_sequence (flac_start_writes High value_0 ++ align ∷ []) 0 ≡ bits High row_0)
    × ((flac_start_decoder High).reads 0 (bits High row_0)
    ≡ Done (length (write_sequence (flac_start_writes High value_0) 0)) (Ok (Ok value_0)))
unfolding row_0 value_0 and_then digits digits_number unsigned unsigned_decoder const_decoder
written_0 = (refl, refl)

row_1 : List ℕ
row_1 = 79 ∷ 103 ∷ 103 ∷ 83 ∷ []

refused_1 : sure_answer ((flac_start_decoder High).reads 0 (bits High row_1)) ≡ Ok (Err NoFlac)
unfolding row_1 and_then digits digits_number unsigned unsigned_decoder const_decoder
refused_1 = refl

row_2 : List ℕ
row_2 = 102 ∷ 76 ∷ 97 ∷ 67 ∷ 0 ∷ 0 ∷ 0 ∷ []

refused_2 : sure_answer ((flac_start_decoder High).reads 0 (bits High row_2)) ≡ Err EndOfInput
unfolding row_2 and_then digits digits_number unsigned unsigned_decoder const_decoder
refused_2 = refl
