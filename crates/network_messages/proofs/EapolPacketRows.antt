-- Made by `./format` from formats/eapol_packet.fields: edit that file and make this one anew.
-- Worked rows of an `EapolPacket`.
use Rattle.network_messages.specs.EapolPacket.{eapol_packet_decoder, eapol_packet_writes}
use Rattle.bitstream_format.specs.Stated.{size_in_units, stored_encoder, stored_size}
use Rattle.bitstream_io.specs.Codec.{and_then}
use Rattle.bitstream_io.specs.Word.{digits, digits_number, bytes_of}
use Rattle.bitstream_io.specs.WriteTable.{unsigned}
use Rattle.bitstream_io.specs.ReadTable.{unsigned_decoder, const_decoder, bytes_decoder}
use Rattle.bitstream_format.specs.Summed.{lines_sum, whole_bytes}
use Rattle.bitstream_format.specs.Stated.{stated_size}
use Rattle.network_messages.specs.declared.eapol_packet.EapolPacket.{EapolPacket}
use Rattle.network_messages.specs.declared.eapol_packet.EapolPacketError.TheVariants.{ShortLength, OtherLength}
use Rattle.network_messages.specs.declared.eapol_packet.EapCode.TheVariants.{Request, Response, Success}
use Rattle.std.proofs.Common.{◌≡◌, ◌++◌, ◌∷◌, [], ℕ, List, Ok, Err, length, refl}
use Rattle.bitstream_io.specs.Callers.{Done, High, bits, align, write_sequence, sure_answer}

row_0 : List ℕ
row_0 = 2 ∷ 0 ∷ 0 ∷ 5 ∷ 1 ∷ 1 ∷ 0 ∷ 5 ∷ 1 ∷ []

value_0 : EapolPacket
value_0 = record {
  version = 2;
  code = Request;
  id = 1;
  «data» = 1 ∷ [];
}

written_0 : (write_sequence (eapol_packet_writes High value_0 ++ align ∷ []) 0 ≡ bits High row_0)
    × ((eapol_packet_decoder High).reads 0 (bits High row_0)
    ≡ Done (length (write_sequence (eapol_packet_writes High value_0) 0)) (Ok (Ok value_0)))
unfolding row_0 value_0 and_then digits digits_number bytes_of unsigned unsigned_decoder const_decoder bytes_decoder
    lines_sum whole_bytes size_in_units stated_size stored_size stored_encoder
written_0 = (refl, refl)

row_1 : List ℕ
row_1 = 1 ∷ 0 ∷ 0 ∷ 10 ∷ 2 ∷ 1 ∷ 0 ∷ 10 ∷ 1 ∷ 104 ∷ 101 ∷ 108 ∷ 108 ∷ 111 ∷ []

value_1 : EapolPacket
value_1 = record {
  version = 1;
  code = Response;
  id = 1;
  «data» = 1 ∷ 104 ∷ 101 ∷ 108 ∷ 108 ∷ 111 ∷ [];
}

written_1 : (write_sequence (eapol_packet_writes High value_1 ++ align ∷ []) 0 ≡ bits High row_1)
    × ((eapol_packet_decoder High).reads 0 (bits High row_1)
    ≡ Done (length (write_sequence (eapol_packet_writes High value_1) 0)) (Ok (Ok value_1)))
unfolding row_1 value_1 and_then digits digits_number bytes_of unsigned unsigned_decoder const_decoder bytes_decoder
    lines_sum whole_bytes size_in_units stated_size stored_size stored_encoder
written_1 = (refl, refl)

row_2 : List ℕ
row_2 = 1 ∷ 0 ∷ 0 ∷ 4 ∷ 3 ∷ 2 ∷ 0 ∷ 4 ∷ []

value_2 : EapolPacket
value_2 = record {
  version = 1;
  code = Success;
  id = 2;
  «data» = [];
}

written_2 : (write_sequence (eapol_packet_writes High value_2 ++ align ∷ []) 0 ≡ bits High row_2)
    × ((eapol_packet_decoder High).reads 0 (bits High row_2)
    ≡ Done (length (write_sequence (eapol_packet_writes High value_2) 0)) (Ok (Ok value_2)))
unfolding row_2 value_2 and_then digits digits_number bytes_of unsigned unsigned_decoder const_decoder bytes_decoder
    lines_sum whole_bytes size_in_units stated_size stored_size stored_encoder
written_2 = (refl, refl)

row_3 : List ℕ
row_3 = 1 ∷ 0 ∷ 0 ∷ 5 ∷ 3 ∷ 2 ∷ 0 ∷ 4 ∷ []

refused_3 : sure_answer ((eapol_packet_decoder High).reads 0 (bits High row_3)) ≡ Ok (Err OtherLength)
unfolding row_3 and_then digits digits_number bytes_of unsigned unsigned_decoder const_decoder bytes_decoder lines_sum
    whole_bytes size_in_units stated_size stored_size stored_encoder
refused_3 = refl

row_4 : List ℕ
row_4 = 1 ∷ 0 ∷ 0 ∷ 4 ∷ 3 ∷ 2 ∷ 0 ∷ 3 ∷ []

refused_4 : sure_answer ((eapol_packet_decoder High).reads 0 (bits High row_4)) ≡ Ok (Err ShortLength)
unfolding row_4 and_then digits digits_number bytes_of unsigned unsigned_decoder const_decoder bytes_decoder lines_sum
    whole_bytes size_in_units stated_size stored_size stored_encoder
refused_4 = refl
