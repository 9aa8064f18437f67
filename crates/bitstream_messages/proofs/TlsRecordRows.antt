-- Made by `./format` from formats/tls_record.fields: edit that file and make this one anew.
-- Worked rows of a `TlsRecord`.
use Rattle.bitstream_messages.specs.TlsRecord.{tls_record_decoder, tls_record_writes}
use Rattle.bitstream_io.specs.Codec.{and_then}
use Rattle.bitstream_io.specs.Word.{digits, digits_number, bytes_of}
use Rattle.bitstream_io.specs.WriteTable.{unsigned}
use Rattle.bitstream_io.specs.ReadTable.{unsigned_decoder, bytes_decoder}
use Rattle.bitstream_format.specs.Within.{size_encoder}
use Rattle.bitstream_messages.specs.declared.tls_record.TlsRecord.{TlsRecord}
use Rattle.bitstream_messages.specs.declared.tls_record.Content.TheVariants.{Alert, Handshake}
use Rattle.std.proofs.Common.{◌≡◌, ◌++◌, ◌∷◌, [], ℕ, List, Ok, Err, length, refl}
use Rattle.bitstream_io.specs.Callers.{Done, EndOfInput, High, bits, align, write_sequence, sure_answer}

row_0 : List ℕ
row_0 = 21 ∷ 3 ∷ 3 ∷ 0 ∷ 2 ∷ 1 ∷ 0 ∷ []

value_0 : TlsRecord
value_0 = record {
  content = Alert;
  version = 771;
  fragment = 1 ∷ 0 ∷ [];
}

written_0 : (write_sequence (tls_record_writes High value_0 ++ align ∷ []) 0 ≡ bits High row_0)
    × ((tls_record_decoder High).reads 0 (bits High row_0)
    ≡ Done (length (write_sequence (tls_record_writes High value_0) 0)) (Ok (Ok value_0)))
unfolding row_0 value_0 and_then digits digits_number bytes_of unsigned unsigned_decoder bytes_decoder size_encoder
written_0 = (refl, refl)

row_1 : List ℕ
row_1 = 22 ∷ 3 ∷ 3 ∷ 0 ∷ 4 ∷ 14 ∷ 0 ∷ 0 ∷ 0 ∷ []

value_1 : TlsRecord
value_1 = record {
  content = Handshake;
  version = 771;
  fragment = 14 ∷ 0 ∷ 0 ∷ 0 ∷ [];
}

written_1 : (write_sequence (tls_record_writes High value_1 ++ align ∷ []) 0 ≡ bits High row_1)
    × ((tls_record_decoder High).reads 0 (bits High row_1)
    ≡ Done (length (write_sequence (tls_record_writes High value_1) 0)) (Ok (Ok value_1)))
unfolding row_1 value_1 and_then digits digits_number bytes_of unsigned unsigned_decoder bytes_decoder size_encoder
written_1 = (refl, refl)

row_2 : List ℕ
row_2 = 23 ∷ 3 ∷ 3 ∷ 0 ∷ 2 ∷ 1 ∷ []

refused_2 : sure_answer ((tls_record_decoder High).reads 0 (bits High row_2)) ≡ Err EndOfInput
unfolding row_2 and_then digits digits_number bytes_of unsigned unsigned_decoder bytes_decoder size_encoder
refused_2 = refl
