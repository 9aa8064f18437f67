-- Made by `./format` from formats/coap_message.fields: edit that file and make this one anew.
-- Worked rows of a `CoapMessage`.
use Rattle.network_messages.specs.CoapMessage.{coap_message_decoder, coap_message_writes}
use Rattle.bitstream_io.specs.Codec.{and_then}
use Rattle.bitstream_io.specs.Word.{digits, digits_number, bytes_of}
use Rattle.bitstream_io.specs.WriteTable.{unsigned}
use Rattle.bitstream_io.specs.ReadTable.{unsigned_decoder, const_decoder, bytes_decoder}
use Rattle.network_messages.specs.declared.coap_message.CoapMessage.{CoapMessage}
use Rattle.network_messages.specs.declared.coap_message.CoapMessageError.TheVariants.{OtherVersion, LongToken}
use Rattle.network_messages.specs.declared.coap_message.Message.TheVariants.{Confirmable, Acknowledgement}
use Rattle.std.proofs.Common.{◌≡◌, ◌++◌, ◌∷◌, [], ℕ, List, Ok, Err, length, refl}
use Rattle.bitstream_io.specs.Callers.{Done, EndOfInput, High, bits, align, write_sequence, sure_answer}

row_0 : List ℕ
row_0 = 64 ∷ 1 ∷ 125 ∷ 52 ∷ 187 ∷ 116 ∷ 101 ∷ 109 ∷ 112 ∷ 101 ∷ 114 ∷ 97 ∷ 116 ∷ 117 ∷ 114 ∷ 101 ∷ []

value_0 : CoapMessage
value_0 = record {
  kind = Confirmable;
  class = 0;
  detail = 1;
  id = 32052;
  token = [];
  options = 187 ∷ 116 ∷ 101 ∷ 109 ∷ 112 ∷ 101 ∷ 114 ∷ 97 ∷ 116 ∷ 117 ∷ 114 ∷ 101 ∷ [];
}

written_0 : (write_sequence (coap_message_writes High value_0 ++ align ∷ []) 0 ≡ bits High row_0)
    × ((coap_message_decoder High 12).reads 0 (bits High row_0)
    ≡ Done (length (write_sequence (coap_message_writes High value_0) 0)) (Ok (Ok value_0)))
unfolding row_0 value_0 and_then digits digits_number bytes_of unsigned unsigned_decoder const_decoder bytes_decoder
written_0 = (refl, refl)

row_1 : List ℕ
row_1 = 97 ∷ 69 ∷ 125 ∷ 53 ∷ 32 ∷ 255 ∷ 50 ∷ 50 ∷ 46 ∷ 51 ∷ 32 ∷ 67 ∷ []

value_1 : CoapMessage
value_1 = record {
  kind = Acknowledgement;
  class = 2;
  detail = 5;
  id = 32053;
  token = 32 ∷ [];
  options = 255 ∷ 50 ∷ 50 ∷ 46 ∷ 51 ∷ 32 ∷ 67 ∷ [];
}

written_1 : (write_sequence (coap_message_writes High value_1 ++ align ∷ []) 0 ≡ bits High row_1)
    × ((coap_message_decoder High 8).reads 0 (bits High row_1)
    ≡ Done (length (write_sequence (coap_message_writes High value_1) 0)) (Ok (Ok value_1)))
unfolding row_1 value_1 and_then digits digits_number bytes_of unsigned unsigned_decoder const_decoder bytes_decoder
written_1 = (refl, refl)

row_2 : List ℕ
row_2 = 73 ∷ 1 ∷ 125 ∷ 52 ∷ []

refused_2 : sure_answer ((coap_message_decoder High 0).reads 0 (bits High row_2)) ≡ Ok (Err LongToken)
unfolding row_2 and_then digits digits_number bytes_of unsigned unsigned_decoder const_decoder bytes_decoder
refused_2 = refl

row_3 : List ℕ
row_3 = 128 ∷ 1 ∷ []

refused_3 : sure_answer ((coap_message_decoder High 0).reads 0 (bits High row_3)) ≡ Ok (Err OtherVersion)
unfolding row_3 and_then digits digits_number bytes_of unsigned unsigned_decoder const_decoder bytes_decoder
refused_3 = refl

row_4 : List ℕ
row_4 = 68 ∷ 1 ∷ 125 ∷ 53 ∷ 32 ∷ 33 ∷ []

refused_4 : sure_answer ((coap_message_decoder High 2).reads 0 (bits High row_4)) ≡ Err EndOfInput
unfolding row_4 and_then digits digits_number bytes_of unsigned unsigned_decoder const_decoder bytes_decoder
refused_4 = refl
