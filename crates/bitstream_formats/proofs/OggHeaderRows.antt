-- Made by `./format` from formats/ogg_header.fields: edit that file and make this one anew.
-- Worked rows of an `OggHeader`.
use Rattle.bitstream_formats.specs.OggHeader.{ogg_header_decoder, ogg_header_writes}
use Rattle.bitstream_io.specs.Codec.{and_then}
use Rattle.bitstream_io.specs.Word.{digits, digits_number}
use Rattle.bitstream_io.specs.WriteTable.{unsigned}
use Rattle.bitstream_io.specs.ReadTable.{unsigned_decoder, const_decoder}
use Rattle.bitstream_formats.specs.declared.ogg_header.OggHeader.{OggHeader}
use Rattle.bitstream_formats.specs.declared.ogg_header.OggHeaderError.TheVariants.{NoCapture, UnknownVersion}
use Rattle.std.proofs.Common.{◌≡◌, ◌++◌, ◌∷◌, [], ℕ, true, false, List, Ok, Err, length, refl}
use Rattle.bitstream_io.specs.Callers.{Done, EndOfInput, Low, bits, align, write_sequence, sure_answer}

row_0 : List ℕ
row_0 = 79 ∷ 103 ∷ 103 ∷ 83 ∷ 0 ∷ 2 ∷ 0 ∷ 0 ∷ 0 ∷ 0 ∷ 0 ∷ 0 ∷ 0 ∷ 0 ∷ 120 ∷ 86 ∷ 52 ∷ 18 ∷ 0 ∷ 0 ∷ 0 ∷ 0 ∷ 13 ∷ 12 ∷ 11
    ∷ 10 ∷ 1 ∷ []

value_0 : OggHeader
value_0 = record {
  continued = false;
  first = true;
  last = false;
  unused = 0;
  granule = 0;
  serial = 305419896;
  sequence = 0;
  checksum = 168496141;
  segments = 1;
}

written_0 : (write_sequence (ogg_header_writes Low value_0 ++ align ∷ []) 0 ≡ bits Low row_0)
    × ((ogg_header_decoder Low).reads 0 (bits Low row_0)
    ≡ Done (length (write_sequence (ogg_header_writes Low value_0) 0)) (Ok (Ok value_0)))
unfolding row_0 value_0 and_then digits digits_number unsigned unsigned_decoder const_decoder
written_0 = (refl, refl)

row_1 : List ℕ
row_1 = 79 ∷ 103 ∷ 103 ∷ 83 ∷ 1 ∷ []

refused_1 : sure_answer ((ogg_header_decoder Low).reads 0 (bits Low row_1)) ≡ Ok (Err UnknownVersion)
unfolding row_1 and_then digits digits_number unsigned unsigned_decoder const_decoder
refused_1 = refl

row_2 : List ℕ
row_2 = 82 ∷ 73 ∷ 70 ∷ 70 ∷ []

refused_2 : sure_answer ((ogg_header_decoder Low).reads 0 (bits Low row_2)) ≡ Ok (Err NoCapture)
unfolding row_2 and_then digits digits_number unsigned unsigned_decoder const_decoder
refused_2 = refl

row_3 : List ℕ
row_3 = 79 ∷ 103 ∷ 103 ∷ 83 ∷ 0 ∷ 2 ∷ []

refused_3 : sure_answer ((ogg_header_decoder Low).reads 0 (bits Low row_3)) ≡ Err EndOfInput
unfolding row_3 and_then digits digits_number unsigned unsigned_decoder const_decoder
refused_3 = refl
