-- Made by `./format` from formats/tftp_data.fields: edit that file and make this one anew.
-- Worked rows of a `TftpData`.
use Rattle.network_messages.specs.TftpData.{tftp_data_decoder, tftp_data_writes}
use Rattle.bitstream_io.specs.Codec.{and_then}
use Rattle.bitstream_io.specs.Word.{digits, digits_number, bytes_of}
use Rattle.bitstream_io.specs.WriteTable.{unsigned}
use Rattle.bitstream_io.specs.ReadTable.{unsigned_decoder, const_decoder, bytes_decoder}
use Rattle.network_messages.specs.declared.tftp_data.TftpData.{TftpData}
use Rattle.network_messages.specs.declared.tftp_data.TftpDataError.TheVariants.{NoData}
use Rattle.std.proofs.Common.{◌≡◌, ◌++◌, ◌∷◌, [], ℕ, List, Ok, Err, length, refl}
use Rattle.bitstream_io.specs.Callers.{Done, EndOfInput, High, bits, align, write_sequence, sure_answer}

row_0 : List ℕ
row_0 = 0 ∷ 3 ∷ 0 ∷ 1 ∷ 104 ∷ 105 ∷ []

value_0 : TftpData
value_0 = record {
  block = 1;
  «data» = 104 ∷ 105 ∷ [];
}

written_0 : (write_sequence (tftp_data_writes High value_0 ++ align ∷ []) 0 ≡ bits High row_0)
    × ((tftp_data_decoder High 2).reads 0 (bits High row_0)
    ≡ Done (length (write_sequence (tftp_data_writes High value_0) 0)) (Ok (Ok value_0)))
unfolding row_0 value_0 and_then digits digits_number bytes_of unsigned unsigned_decoder const_decoder bytes_decoder
written_0 = (refl, refl)

row_1 : List ℕ
row_1 = 0 ∷ 3 ∷ 0 ∷ 2 ∷ []

value_1 : TftpData
value_1 = record {
  block = 2;
  «data» = [];
}

written_1 : (write_sequence (tftp_data_writes High value_1 ++ align ∷ []) 0 ≡ bits High row_1)
    × ((tftp_data_decoder High 0).reads 0 (bits High row_1)
    ≡ Done (length (write_sequence (tftp_data_writes High value_1) 0)) (Ok (Ok value_1)))
unfolding row_1 value_1 and_then digits digits_number bytes_of unsigned unsigned_decoder const_decoder bytes_decoder
written_1 = (refl, refl)

row_2 : List ℕ
row_2 = 0 ∷ 4 ∷ 0 ∷ 1 ∷ []

refused_2 : sure_answer ((tftp_data_decoder High 0).reads 0 (bits High row_2)) ≡ Ok (Err NoData)
unfolding row_2 and_then digits digits_number bytes_of unsigned unsigned_decoder const_decoder bytes_decoder
refused_2 = refl

row_3 : List ℕ
row_3 = 0 ∷ 3 ∷ 0 ∷ []

refused_3 : sure_answer ((tftp_data_decoder High 0).reads 0 (bits High row_3)) ≡ Err EndOfInput
unfolding row_3 and_then digits digits_number bytes_of unsigned unsigned_decoder const_decoder bytes_decoder
refused_3 = refl
