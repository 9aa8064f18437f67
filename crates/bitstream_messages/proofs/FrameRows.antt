-- Made by `./format` from formats/frame.fields: edit that file and make this one anew.
-- Worked rows of a `Frame`.
use Rattle.bitstream_messages.specs.Frame.{frame_decoder, frame_writes}
use Rattle.bitstream_format.specs.Within.{size_encoder}
use Rattle.bitstream_io.specs.Codec.{and_then}
use Rattle.bitstream_io.specs.Word.{digits, digits_number, bytes_of}
use Rattle.bitstream_io.specs.WriteTable.{unsigned}
use Rattle.bitstream_io.specs.ReadTable.{unsigned_decoder, const_decoder, skip_decoder, bytes_decoder}
use Rattle.bitstream_io.specs.Array.{items_decoder}
use Rattle.bitstream_messages.specs.declared.message.Body.TheVariants.{Stop as MessageBodyStop}
use Rattle.bitstream_messages.specs.declared.frame.Frame.{Frame}
use Rattle.bitstream_messages.specs.declared.frame.FrameError.TheVariants.{NoContent, OtherBody}
use Rattle.bitstream_messages.specs.declared.frame.Content.TheVariants.{Ack as ContentAck, Empty as ContentEmpty}
use Rattle.std.proofs.Common.{◌≡◌, ◌++◌, ◌∷◌, [], ℕ, true, List, Ok, Err, length, refl}
use Rattle.bitstream_io.specs.Callers.{Done, High, bits, align, write_sequence, sure_answer}

row_0 : List ℕ
row_0 = 1 ∷ 3 ∷ 2 ∷ 0 ∷ 5 ∷ 128 ∷ 3 ∷ 128 ∷ []

value_0 : Frame
value_0 = record {
  body = ContentAck (record { sequence = 5; urgent = true });
  message = record { version = 0; body = MessageBodyStop; checked = true };
}

written_0 : (write_sequence (frame_writes High value_0 ++ align ∷ []) 0 ≡ bits High row_0)
    × ((frame_decoder High).reads 0 (bits High row_0)
    ≡ Done (length (write_sequence (frame_writes High value_0) 0)) (Ok (Ok value_0)))
unfolding row_0 value_0 and_then digits digits_number bytes_of unsigned unsigned_decoder const_decoder skip_decoder
    bytes_decoder items_decoder size_encoder
written_0 = (refl, refl)

row_1 : List ℕ
row_1 = 3 ∷ 0 ∷ 2 ∷ 3 ∷ 128 ∷ []

value_1 : Frame
value_1 = record {
  body = ContentEmpty;
  message = record { version = 0; body = MessageBodyStop; checked = true };
}

written_1 : (write_sequence (frame_writes High value_1 ++ align ∷ []) 0 ≡ bits High row_1)
    × ((frame_decoder High).reads 0 (bits High row_1)
    ≡ Done (length (write_sequence (frame_writes High value_1) 0)) (Ok (Ok value_1)))
unfolding row_1 value_1 and_then digits digits_number bytes_of unsigned unsigned_decoder const_decoder skip_decoder
    bytes_decoder items_decoder size_encoder
written_1 = (refl, refl)

row_2 : List ℕ
row_2 = 3 ∷ 1 ∷ 2 ∷ 0 ∷ 3 ∷ 128 ∷ []

refused_2 : sure_answer ((frame_decoder High).reads 0 (bits High row_2)) ≡ Ok (Err OtherBody)
unfolding row_2 and_then digits digits_number bytes_of unsigned unsigned_decoder const_decoder skip_decoder
    bytes_decoder items_decoder size_encoder
refused_2 = refl

row_3 : List ℕ
row_3 = 4 ∷ 0 ∷ 2 ∷ 3 ∷ 128 ∷ []

refused_3 : sure_answer ((frame_decoder High).reads 0 (bits High row_3)) ≡ Ok (Err NoContent)
unfolding row_3 and_then digits digits_number bytes_of unsigned unsigned_decoder const_decoder skip_decoder
    bytes_decoder items_decoder size_encoder
refused_3 = refl
