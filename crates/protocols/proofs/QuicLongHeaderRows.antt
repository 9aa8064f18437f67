-- Made by `./format` from formats/quic_long_header.fields: edit that file and make this one anew.
-- Worked rows of a `QuicLongHeader`.
use Rattle.protocols.specs.QuicLongHeader.{quic_long_header_decoder, quic_long_header_writes}
use Rattle.bitstream_io.specs.Codec.{and_then}
use Rattle.bitstream_io.specs.Word.{digits, digits_number, bytes_of}
use Rattle.bitstream_io.specs.WriteTable.{unsigned}
use Rattle.bitstream_io.specs.ReadTable.{unsigned_decoder, const_decoder, bytes_decoder}
use Rattle.protocols.specs.declared.quic_long_header.QuicLongHeader.{QuicLongHeader}
use Rattle.protocols.specs.declared.quic_long_header.QuicError.TheVariants.{ShortHeader}
use Rattle.std.proofs.Common.{◌≡◌, ◌++◌, ◌∷◌, [], ℕ, true, List, Ok, Err, length, refl}
use Rattle.bitstream_io.specs.Callers.{Done, High, bits, align, write_sequence, sure_answer}

row_0 : List ℕ
row_0 = 195 ∷ 0 ∷ 0 ∷ 0 ∷ 1 ∷ 8 ∷ 131 ∷ 148 ∷ 200 ∷ 240 ∷ 62 ∷ 81 ∷ 87 ∷ 8 ∷ 0 ∷ []

value_0 : QuicLongHeader
value_0 = record {
  fixed = true;
  kind = 0;
  specific = 3;
  version = 1;
  target = 131 ∷ 148 ∷ 200 ∷ 240 ∷ 62 ∷ 81 ∷ 87 ∷ 8 ∷ [];
  source = [];
}

written_0 : (write_sequence (quic_long_header_writes High value_0 ++ align ∷ []) 0 ≡ bits High row_0)
    × ((quic_long_header_decoder High).reads 0 (bits High row_0)
    ≡ Done (length (write_sequence (quic_long_header_writes High value_0) 0)) (Ok (Ok value_0)))
unfolding row_0 value_0 and_then digits digits_number bytes_of unsigned unsigned_decoder const_decoder bytes_decoder
written_0 = (refl, refl)

row_1 : List ℕ
row_1 = 193 ∷ 0 ∷ 0 ∷ 0 ∷ 1 ∷ 0 ∷ 8 ∷ 240 ∷ 103 ∷ 165 ∷ 80 ∷ 42 ∷ 66 ∷ 98 ∷ 181 ∷ []

value_1 : QuicLongHeader
value_1 = record {
  fixed = true;
  kind = 0;
  specific = 1;
  version = 1;
  target = [];
  source = 240 ∷ 103 ∷ 165 ∷ 80 ∷ 42 ∷ 66 ∷ 98 ∷ 181 ∷ [];
}

written_1 : (write_sequence (quic_long_header_writes High value_1 ++ align ∷ []) 0 ≡ bits High row_1)
    × ((quic_long_header_decoder High).reads 0 (bits High row_1)
    ≡ Done (length (write_sequence (quic_long_header_writes High value_1) 0)) (Ok (Ok value_1)))
unfolding row_1 value_1 and_then digits digits_number bytes_of unsigned unsigned_decoder const_decoder bytes_decoder
written_1 = (refl, refl)

row_2 : List ℕ
row_2 = 79 ∷ 0 ∷ []

refused_2 : sure_answer ((quic_long_header_decoder High).reads 0 (bits High row_2)) ≡ Ok (Err ShortHeader)
unfolding row_2 and_then digits digits_number bytes_of unsigned unsigned_decoder const_decoder bytes_decoder
refused_2 = refl
