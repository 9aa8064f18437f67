-- Made by `./format` from formats/adts_header.fields: edit that file and make this one anew.
-- Worked rows of an `AdtsHeader`.
use Rattle.bitstream_formats.specs.AdtsHeader.{adts_header_decoder, adts_header_writes}
use Rattle.bitstream_io.specs.Codec.{and_then}
use Rattle.bitstream_io.specs.Word.{digits, digits_number}
use Rattle.bitstream_io.specs.WriteTable.{unsigned}
use Rattle.bitstream_io.specs.ReadTable.{unsigned_decoder, const_decoder}
use Rattle.bitstream_formats.specs.declared.adts_header.AdtsHeader.{AdtsHeader}
use Rattle.bitstream_formats.specs.declared.adts_header.AdtsHeaderError.TheVariants.{NoSync, UnknownLayer}
use Rattle.std.proofs.Common.{◌≡◌, ◌++◌, ◌∷◌, [], ℕ, true, false, List, Ok, Err, length, refl}
use Rattle.bitstream_io.specs.Callers.{Done, EndOfInput, High, bits, align, write_sequence, sure_answer}

row_0 : List ℕ
row_0 = 255 ∷ 241 ∷ 80 ∷ 128 ∷ 2 ∷ 31 ∷ 252 ∷ []

value_0 : AdtsHeader
value_0 = record {
  mpeg_2 = false;
  protection_absent = true;
  profile = 1;
  frequency = 4;
  private = false;
  channels = 2;
  original = false;
  home = false;
  copyright_id = false;
  copyright_start = false;
  frame_length = 16;
  fullness = 2047;
  blocks = 0;
}

written_0 : (write_sequence (adts_header_writes High value_0 ++ align ∷ []) 0 ≡ bits High row_0)
    × ((adts_header_decoder High).reads 0 (bits High row_0)
    ≡ Done (length (write_sequence (adts_header_writes High value_0) 0)) (Ok (Ok value_0)))
unfolding row_0 value_0 and_then digits digits_number unsigned unsigned_decoder const_decoder
written_0 = (refl, refl)

row_1 : List ℕ
row_1 = 255 ∷ 1 ∷ 80 ∷ []

refused_1 : sure_answer ((adts_header_decoder High).reads 0 (bits High row_1)) ≡ Ok (Err NoSync)
unfolding row_1 and_then digits digits_number unsigned unsigned_decoder const_decoder
refused_1 = refl

row_2 : List ℕ
row_2 = 255 ∷ 247 ∷ []

refused_2 : sure_answer ((adts_header_decoder High).reads 0 (bits High row_2)) ≡ Ok (Err UnknownLayer)
unfolding row_2 and_then digits digits_number unsigned unsigned_decoder const_decoder
refused_2 = refl

row_3 : List ℕ
row_3 = 255 ∷ 241 ∷ 80 ∷ 128 ∷ 2 ∷ 31 ∷ []

refused_3 : sure_answer ((adts_header_decoder High).reads 0 (bits High row_3)) ≡ Err EndOfInput
unfolding row_3 and_then digits digits_number unsigned unsigned_decoder const_decoder
refused_3 = refl
