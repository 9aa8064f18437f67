-- Made by `./format` from formats/packet.fields: edit that file and make this one anew.
-- Worked rows of a `Packet`.
use Rattle.bitstream_messages.specs.Packet.{packet_decoder, packet_writes}
use Rattle.bitstream_format.specs.Within.{size_encoder}
use Rattle.bitstream_io.specs.Codec.{and_then}
use Rattle.bitstream_io.specs.Word.{digits, digits_number, bytes_of}
use Rattle.bitstream_io.specs.WriteTable.{unsigned}
use Rattle.bitstream_io.specs.ReadTable.{unsigned_decoder, skip_decoder, bytes_decoder}
use Rattle.bitstream_io.specs.Array.{items_decoder}
use Rattle.bitstream_messages.specs.declared.packet.Packet.{Packet}
use Rattle.bitstream_messages.specs.declared.packet.PacketError.TheVariants.{OtherNotes, OtherAck}
use Rattle.std.proofs.Common.{◌≡◌, ◌++◌, ◌∷◌, [], ℕ, true, List, Ok, Err, length, refl}
use Rattle.bitstream_io.specs.Callers.{Done, EndOfInput, High, bits, align, write_sequence, sure_answer}

row_0 : List ℕ
row_0 = 0 ∷ 6 ∷ 7 ∷ 2 ∷ 0 ∷ 1 ∷ 1 ∷ 244 ∷ 3 ∷ 0 ∷ 5 ∷ 128 ∷ 255 ∷ []

value_0 : Packet
value_0 = record {
  notes = record { place = 7; levels = 1 ∷ 500 ∷ [] };
  ack = record { sequence = 5; urgent = true };
  end = 255;
}

written_0 : (write_sequence (packet_writes High value_0 ++ align ∷ []) 0 ≡ bits High row_0)
    × ((packet_decoder High).reads 0 (bits High row_0)
    ≡ Done (length (write_sequence (packet_writes High value_0) 0)) (Ok (Ok value_0)))
unfolding row_0 value_0 and_then digits digits_number bytes_of unsigned unsigned_decoder skip_decoder bytes_decoder
    items_decoder size_encoder
written_0 = (refl, refl)

row_1 : List ℕ
row_1 = 0 ∷ 5 ∷ 7 ∷ 2 ∷ 0 ∷ 1 ∷ 1 ∷ 244 ∷ 3 ∷ 0 ∷ 5 ∷ 128 ∷ 255 ∷ []

refused_1 : sure_answer ((packet_decoder High).reads 0 (bits High row_1)) ≡ Ok (Err OtherNotes)
unfolding row_1 and_then digits digits_number bytes_of unsigned unsigned_decoder skip_decoder bytes_decoder
    items_decoder size_encoder
refused_1 = refl

row_2 : List ℕ
row_2 = 0 ∷ 7 ∷ 7 ∷ 2 ∷ 0 ∷ 1 ∷ 1 ∷ 244 ∷ 3 ∷ 0 ∷ 5 ∷ 128 ∷ 255 ∷ []

refused_2 : sure_answer ((packet_decoder High).reads 0 (bits High row_2)) ≡ Ok (Err OtherNotes)
unfolding row_2 and_then digits digits_number bytes_of unsigned unsigned_decoder skip_decoder bytes_decoder
    items_decoder size_encoder
refused_2 = refl

row_3 : List ℕ
row_3 = 0 ∷ 2 ∷ 7 ∷ 0 ∷ 2 ∷ 0 ∷ 5 ∷ 128 ∷ []

refused_3 : sure_answer ((packet_decoder High).reads 0 (bits High row_3)) ≡ Ok (Err OtherAck)
unfolding row_3 and_then digits digits_number bytes_of unsigned unsigned_decoder skip_decoder bytes_decoder
    items_decoder size_encoder
refused_3 = refl

row_4 : List ℕ
row_4 = 0 ∷ 3 ∷ 7 ∷ 0 ∷ []

refused_4 : sure_answer ((packet_decoder High).reads 0 (bits High row_4)) ≡ Err EndOfInput
unfolding row_4 and_then digits digits_number bytes_of unsigned unsigned_decoder skip_decoder bytes_decoder
    items_decoder size_encoder
refused_4 = refl
