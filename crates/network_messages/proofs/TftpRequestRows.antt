-- Made by `./format` from formats/tftp_request.fields: edit that file and make this one anew.
-- Worked rows of a `TftpRequest`.
use Rattle.network_messages.specs.TftpRequest.{tftp_request_decoder, tftp_request_writes}
use Rattle.bitstream_io.specs.Codec.{and_then}
use Rattle.bitstream_io.specs.Word.{digits, digits_number}
use Rattle.bitstream_io.specs.WriteTable.{unsigned}
use Rattle.bitstream_io.specs.ReadTable.{unsigned_decoder}
use Rattle.bitstream_format.specs.Until.{until_from}
use Rattle.network_messages.specs.declared.tftp_request.TftpRequest.{TftpRequest}
use Rattle.network_messages.specs.declared.tftp_request.TftpRequestError.TheVariants.{NoRequest}
use Rattle.network_messages.specs.declared.tftp_request.Request.TheVariants.{Read}
use Rattle.std.proofs.Common.{◌≡◌, ◌++◌, ◌∷◌, [], ℕ, List, Ok, Err, length, refl}
use Rattle.bitstream_io.specs.Callers.{Done, EndOfInput, High, bits, align, write_sequence, sure_answer}

row_0 : List ℕ
row_0 = 0 ∷ 1 ∷ 114 ∷ 102 ∷ 99 ∷ 49 ∷ 51 ∷ 53 ∷ 48 ∷ 46 ∷ 116 ∷ 120 ∷ 116 ∷ 0 ∷ 111 ∷ 99 ∷ 116 ∷ 101 ∷ 116 ∷ 0 ∷ []

value_0 : TftpRequest
value_0 = record {
  opcode = Read;
  name = 114 ∷ 102 ∷ 99 ∷ 49 ∷ 51 ∷ 53 ∷ 48 ∷ 46 ∷ 116 ∷ 120 ∷ 116 ∷ [];
  mode = 111 ∷ 99 ∷ 116 ∷ 101 ∷ 116 ∷ [];
}

written_0 : (write_sequence (tftp_request_writes High value_0 ++ align ∷ []) 0 ≡ bits High row_0)
    × ((tftp_request_decoder High).reads 0 (bits High row_0)
    ≡ Done (length (write_sequence (tftp_request_writes High value_0) 0)) (Ok (Ok value_0)))
unfolding row_0 value_0 and_then digits digits_number unsigned unsigned_decoder until_from
written_0 = (refl, refl)

row_1 : List ℕ
row_1 = 0 ∷ 3 ∷ 0 ∷ 1 ∷ []

refused_1 : sure_answer ((tftp_request_decoder High).reads 0 (bits High row_1)) ≡ Ok (Err NoRequest)
unfolding row_1 and_then digits digits_number unsigned unsigned_decoder until_from
refused_1 = refl

row_2 : List ℕ
row_2 = 0 ∷ 1 ∷ 97 ∷ 0 ∷ []

refused_2 : sure_answer ((tftp_request_decoder High).reads 0 (bits High row_2)) ≡ Err EndOfInput
unfolding row_2 and_then digits digits_number unsigned unsigned_decoder until_from
refused_2 = refl
