-- Made by `./format` from formats/rtp_header.fields: edit that file and make this one anew.
-- Worked rows of a `RtpHeader`.
use Rattle.bitstream_callers.specs.RtpHeader.{rtp_header_decoder, rtp_header_writes}
use Rattle.bitstream_io.specs.Codec.{and_then}
use Rattle.bitstream_io.specs.Word.{digits, digits_number}
use Rattle.bitstream_io.specs.WriteTable.{unsigned}
use Rattle.bitstream_io.specs.ReadTable.{unsigned_decoder, const_decoder}
use Rattle.bitstream_io.specs.Array.{items_decoder}
use Rattle.bitstream_callers.specs.declared.rtp_header.RtpHeader.{RtpHeader}
use Rattle.bitstream_callers.specs.declared.rtp_header.RtpError.TheVariants.{WrongVersion}
use Rattle.std.proofs.Common.{◌≡◌, ◌++◌, ◌∷◌, [], ℕ, true, false, List, Ok, Err, length, refl}
use Rattle.bitstream_io.specs.Callers.{Done, EndOfInput, High, bits, align, write_sequence, sure_answer}

row_0 : List ℕ
row_0 = 128 ∷ 64 ∷ 241 ∷ 123 ∷ 128 ∷ 65 ∷ 248 ∷ 211 ∷ 85 ∷ 1 ∷ 160 ∷ 178 ∷ []

value_0 : RtpHeader
value_0 = record {
  padding = false;
  extension = false;
  marker = false;
  payload_type = 64;
  sequence = 61819;
  timestamp = 2151807187;
  ssrc = 1426170034;
  csrc = [];
}

written_0 : (write_sequence (rtp_header_writes High value_0 ++ align ∷ []) 0 ≡ bits High row_0)
    × ((rtp_header_decoder High).reads 0 (bits High row_0)
    ≡ Done (length (write_sequence (rtp_header_writes High value_0) 0)) (Ok (Ok value_0)))
unfolding row_0 value_0 and_then digits digits_number unsigned unsigned_decoder const_decoder items_decoder
written_0 = (refl, refl)

row_1 : List ℕ
row_1 = 130 ∷ 139 ∷ 0 ∷ 2 ∷ 0 ∷ 0 ∷ 0 ∷ 160 ∷ 18 ∷ 52 ∷ 86 ∷ 120 ∷ 0 ∷ 0 ∷ 0 ∷ 7 ∷ 222 ∷ 202 ∷ 251 ∷ 173 ∷ []

value_1 : RtpHeader
value_1 = record {
  padding = false;
  extension = false;
  marker = true;
  payload_type = 11;
  sequence = 2;
  timestamp = 160;
  ssrc = 305419896;
  csrc = 7 ∷ 3737844653 ∷ [];
}

written_1 : (write_sequence (rtp_header_writes High value_1 ++ align ∷ []) 0 ≡ bits High row_1)
    × ((rtp_header_decoder High).reads 0 (bits High row_1)
    ≡ Done (length (write_sequence (rtp_header_writes High value_1) 0)) (Ok (Ok value_1)))
unfolding row_1 value_1 and_then digits digits_number unsigned unsigned_decoder const_decoder items_decoder
written_1 = (refl, refl)

row_2 : List ℕ
row_2 = 64 ∷ 64 ∷ 241 ∷ 123 ∷ []

refused_2 : sure_answer ((rtp_header_decoder High).reads 0 (bits High row_2)) ≡ Ok (Err WrongVersion)
unfolding row_2 and_then digits digits_number unsigned unsigned_decoder const_decoder items_decoder
refused_2 = refl

row_3 : List ℕ
row_3 = 129 ∷ 64 ∷ 241 ∷ 123 ∷ 128 ∷ 65 ∷ 248 ∷ 211 ∷ 85 ∷ 1 ∷ 160 ∷ 178 ∷ 0 ∷ 0 ∷ 0 ∷ []

refused_3 : sure_answer ((rtp_header_decoder High).reads 0 (bits High row_3)) ≡ Err EndOfInput
unfolding row_3 and_then digits digits_number unsigned unsigned_decoder const_decoder items_decoder
refused_3 = refl
