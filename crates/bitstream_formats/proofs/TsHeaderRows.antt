-- Made by `./format` from formats/ts_header.fields: edit that file and make this one anew.
-- Worked rows of a `TsHeader`.
use Rattle.bitstream_formats.specs.TsHeader.{ts_header_decoder, ts_header_writes}
use Rattle.bitstream_io.specs.Codec.{and_then}
use Rattle.bitstream_io.specs.Word.{digits, digits_number}
use Rattle.bitstream_io.specs.WriteTable.{unsigned}
use Rattle.bitstream_io.specs.ReadTable.{unsigned_decoder, const_decoder}
use Rattle.bitstream_formats.specs.declared.ts_header.TsHeader.{TsHeader}
use Rattle.bitstream_formats.specs.declared.ts_header.TsHeaderError.TheVariants.{NoSync}
use Rattle.std.proofs.Common.{◌≡◌, ◌++◌, ◌∷◌, [], ℕ, true, false, List, Ok, Err, length, refl}
use Rattle.bitstream_io.specs.Callers.{Done, EndOfInput, High, bits, align, write_sequence, sure_answer}

row_0 : List ℕ
row_0 = 71 ∷ 64 ∷ 17 ∷ 16 ∷ []

value_0 : TsHeader
value_0 = record {
  damaged = false;
  starts = true;
  priority = false;
  pid = 17;
  scrambling = 0;
  adapted = false;
  payload = true;
  continuity = 0;
}

written_0 : (write_sequence (ts_header_writes High value_0 ++ align ∷ []) 0 ≡ bits High row_0)
    × ((ts_header_decoder High).reads 0 (bits High row_0)
    ≡ Done (length (write_sequence (ts_header_writes High value_0) 0)) (Ok (Ok value_0)))
unfolding row_0 value_0 and_then digits digits_number unsigned unsigned_decoder const_decoder
written_0 = (refl, refl)

row_1 : List ℕ
row_1 = 70 ∷ 64 ∷ 17 ∷ 16 ∷ []

refused_1 : sure_answer ((ts_header_decoder High).reads 0 (bits High row_1)) ≡ Ok (Err NoSync)
unfolding row_1 and_then digits digits_number unsigned unsigned_decoder const_decoder
refused_1 = refl

row_2 : List ℕ
row_2 = 71 ∷ 64 ∷ 17 ∷ []

refused_2 : sure_answer ((ts_header_decoder High).reads 0 (bits High row_2)) ≡ Err EndOfInput
unfolding row_2 and_then digits digits_number unsigned unsigned_decoder const_decoder
refused_2 = refl
