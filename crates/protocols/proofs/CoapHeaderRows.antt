-- Made by `./format` from formats/coap_header.fields: edit that file and make this one anew.
-- Worked rows of a `CoapHeader`.
use Rattle.protocols.specs.CoapHeader.{coap_header_decoder, coap_header_writes}
use Rattle.bitstream_io.specs.Codec.{and_then}
use Rattle.bitstream_io.specs.Word.{digits, digits_number, bytes_of}
use Rattle.bitstream_io.specs.WriteTable.{unsigned}
use Rattle.bitstream_io.specs.ReadTable.{unsigned_decoder, const_decoder, bytes_decoder}
use Rattle.protocols.specs.declared.coap_header.CoapHeader.{CoapHeader}
use Rattle.protocols.specs.declared.coap_header.CoapError.TheVariants.{OtherVersion}
use Rattle.protocols.specs.declared.coap_header.Message.TheVariants.{Confirmable}
use Rattle.std.proofs.Common.{◌≡◌, ◌++◌, ◌∷◌, [], ℕ, List, Ok, Err, length, refl}
use Rattle.bitstream_io.specs.Callers.{Done, EndOfInput, High, bits, align, write_sequence, sure_answer}

row_0 : List ℕ
row_0 = 64 ∷ 1 ∷ 125 ∷ 52 ∷ []

value_0 : CoapHeader
value_0 = record {
  kind = Confirmable;
  class = 0;
  detail = 1;
  id = 32052;
  token = [];
}

written_0 : (write_sequence (coap_header_writes High value_0 ++ align ∷ []) 0 ≡ bits High row_0)
    × ((coap_header_decoder High).reads 0 (bits High row_0)
    ≡ Done (length (write_sequence (coap_header_writes High value_0) 0)) (Ok (Ok value_0)))
unfolding row_0 value_0 and_then digits digits_number bytes_of unsigned unsigned_decoder const_decoder bytes_decoder
written_0 = (refl, refl)

row_1 : List ℕ
row_1 = 65 ∷ 1 ∷ 125 ∷ 53 ∷ 32 ∷ []

value_1 : CoapHeader
value_1 = record {
  kind = Confirmable;
  class = 0;
  detail = 1;
  id = 32053;
  token = 32 ∷ [];
}

written_1 : (write_sequence (coap_header_writes High value_1 ++ align ∷ []) 0 ≡ bits High row_1)
    × ((coap_header_decoder High).reads 0 (bits High row_1)
    ≡ Done (length (write_sequence (coap_header_writes High value_1) 0)) (Ok (Ok value_1)))
unfolding row_1 value_1 and_then digits digits_number bytes_of unsigned unsigned_decoder const_decoder bytes_decoder
written_1 = (refl, refl)

row_2 : List ℕ
row_2 = 128 ∷ 1 ∷ []

refused_2 : sure_answer ((coap_header_decoder High).reads 0 (bits High row_2)) ≡ Ok (Err OtherVersion)
unfolding row_2 and_then digits digits_number bytes_of unsigned unsigned_decoder const_decoder bytes_decoder
refused_2 = refl

row_3 : List ℕ
row_3 = 68 ∷ 1 ∷ 125 ∷ 53 ∷ 32 ∷ 33 ∷ []

refused_3 : sure_answer ((coap_header_decoder High).reads 0 (bits High row_3)) ≡ Err EndOfInput
unfolding row_3 and_then digits digits_number bytes_of unsigned unsigned_decoder const_decoder bytes_decoder
refused_3 = refl
