-- Made by `./format` from formats/message.fields: edit that file and make this one anew.
-- Worked rows of a `Message`.
use Rattle.bitstream_messages.specs.Message.{message_decoder, message_writes}
use Rattle.bitstream_io.specs.Codec.{and_then}
use Rattle.bitstream_io.specs.Word.{digits, digits_number}
use Rattle.bitstream_io.specs.WriteTable.{unsigned}
use Rattle.bitstream_io.specs.ReadTable.{unsigned_decoder, const_decoder, skip_decoder}
use Rattle.bitstream_io.specs.Array.{items_decoder}
use Rattle.bitstream_messages.specs.declared.message.Message.{Message}
use Rattle.bitstream_messages.specs.declared.message.MessageError.TheVariants.{NoBody}
use Rattle.bitstream_messages.specs.declared.message.Body.TheVariants.{Ack as BodyAck, First as BodyFirst, Stop as BodyStop, Mark as BodyMark}
use Rattle.std.proofs.Common.{◌≡◌, ◌++◌, ◌∷◌, [], ℕ, true, false, List, Ok, Err, length, refl}
use Rattle.bitstream_io.specs.Callers.{Done, High, bits, align, write_sequence, sure_answer}

row_0 : List ℕ
row_0 = 17 ∷ 0 ∷ 5 ∷ 128 ∷ 128 ∷ []

value_0 : Message
value_0 = record {
  version = 1;
  body = BodyAck (record { sequence = 5; urgent = true });
  checked = true;
}

written_0 : (write_sequence (message_writes High value_0 ++ align ∷ []) 0 ≡ bits High row_0)
    × ((message_decoder High).reads 0 (bits High row_0)
    ≡ Done (length (write_sequence (message_writes High value_0) 0)) (Ok (Ok value_0)))
unfolding row_0 value_0 and_then digits digits_number unsigned unsigned_decoder const_decoder skip_decoder items_decoder
written_0 = (refl, refl)

row_1 : List ℕ
row_1 = 18 ∷ 7 ∷ 2 ∷ 0 ∷ 1 ∷ 1 ∷ 244 ∷ 0 ∷ []

value_1 : Message
value_1 = record {
  version = 1;
  body = BodyFirst (record { place = 7; levels = 1 ∷ 500 ∷ [] });
  checked = false;
}

written_1 : (write_sequence (message_writes High value_1 ++ align ∷ []) 0 ≡ bits High row_1)
    × ((message_decoder High).reads 0 (bits High row_1)
    ≡ Done (length (write_sequence (message_writes High value_1) 0)) (Ok (Ok value_1)))
unfolding row_1 value_1 and_then digits digits_number unsigned unsigned_decoder const_decoder skip_decoder items_decoder
written_1 = (refl, refl)

row_2 : List ℕ
row_2 = 3 ∷ 128 ∷ []

value_2 : Message
value_2 = record {
  version = 0;
  body = BodyStop;
  checked = true;
}

written_2 : (write_sequence (message_writes High value_2 ++ align ∷ []) 0 ≡ bits High row_2)
    × ((message_decoder High).reads 0 (bits High row_2)
    ≡ Done (length (write_sequence (message_writes High value_2) 0)) (Ok (Ok value_2)))
unfolding row_2 value_2 and_then digits digits_number unsigned unsigned_decoder const_decoder skip_decoder items_decoder
written_2 = (refl, refl)

row_3 : List ℕ
row_3 = 20 ∷ 7 ∷ 9 ∷ 0 ∷ []

value_3 : Message
value_3 = record {
  version = 1;
  body = BodyMark (record { color = 9 });
  checked = false;
}

written_3 : (write_sequence (message_writes High value_3 ++ align ∷ []) 0 ≡ bits High row_3)
    × ((message_decoder High).reads 0 (bits High row_3)
    ≡ Done (length (write_sequence (message_writes High value_3) 0)) (Ok (Ok value_3)))
unfolding row_3 value_3 and_then digits digits_number unsigned unsigned_decoder const_decoder skip_decoder items_decoder
written_3 = (refl, refl)

row_4 : List ℕ
row_4 = 5 ∷ 128 ∷ []

refused_4 : sure_answer ((message_decoder High).reads 0 (bits High row_4)) ≡ Ok (Err NoBody)
unfolding row_4 and_then digits digits_number unsigned unsigned_decoder const_decoder skip_decoder items_decoder
refused_4 = refl
