-- Made by `./format` from formats/rtp_packet.fields: edit that file and make this one anew.
-- Worked rows of a `RtpPacket`.
use Rattle.network_messages.specs.RtpPacket.{rtp_packet_decoder, rtp_packet_writes}
use Rattle.bitstream_io.specs.Codec.{and_then}
use Rattle.bitstream_io.specs.Word.{digits, digits_number, bytes_of}
use Rattle.bitstream_io.specs.WriteTable.{unsigned}
use Rattle.bitstream_io.specs.ReadTable.{unsigned_decoder, const_decoder, bytes_decoder}
use Rattle.bitstream_io.specs.Array.{items_decoder}
use Rattle.bitstream_format.specs.Stated.{size_in_units, stated_size, stored_size, stored_encoder}
use Rattle.network_messages.specs.declared.rtp_packet.RtpPacket.{RtpPacket}
use Rattle.network_messages.specs.declared.rtp_packet.RtpPacketError.TheVariants.{OtherVersion}
use Rattle.std.proofs.Common.{◌≡◌, ◌++◌, ◌∷◌, [], ℕ, true, false, List, Ok, Err, Some, None, length, refl}
use Rattle.bitstream_io.specs.Callers.{Done, High, bits, align, write_sequence, sure_answer}

row_0 : List ℕ
row_0 = 146 ∷ 139 ∷ 0 ∷ 2 ∷ 0 ∷ 0 ∷ 0 ∷ 160 ∷ 18 ∷ 52 ∷ 86 ∷ 120 ∷ 0 ∷ 0 ∷ 0 ∷ 7 ∷ 222 ∷ 202 ∷ 251 ∷ 173 ∷ 190 ∷ 222 ∷ 0
    ∷ 1 ∷ 16 ∷ 255 ∷ 0 ∷ 0 ∷ []

value_0 : RtpPacket
value_0 = record {
  padding = false;
  marker = true;
  payload_type = 11;
  sequence = 2;
  timestamp = 160;
  ssrc = 305419896;
  csrc = 7 ∷ 3737844653 ∷ [];
  extension = Some (record { profile = 48862; «data» = 16 ∷ 255 ∷ 0 ∷ 0 ∷ [] });
}

written_0 : (write_sequence (rtp_packet_writes High value_0 ++ align ∷ []) 0 ≡ bits High row_0)
    × ((rtp_packet_decoder High).reads 0 (bits High row_0)
    ≡ Done (length (write_sequence (rtp_packet_writes High value_0) 0)) (Ok (Ok value_0)))
unfolding row_0 value_0 and_then digits digits_number bytes_of unsigned unsigned_decoder const_decoder bytes_decoder
    items_decoder size_in_units stated_size stored_size stored_encoder
written_0 = (refl, refl)

row_1 : List ℕ
row_1 = 128 ∷ 64 ∷ 241 ∷ 123 ∷ 128 ∷ 65 ∷ 248 ∷ 211 ∷ 85 ∷ 1 ∷ 160 ∷ 178 ∷ []

value_1 : RtpPacket
value_1 = record {
  padding = false;
  marker = false;
  payload_type = 64;
  sequence = 61819;
  timestamp = 2151807187;
  ssrc = 1426170034;
  csrc = [];
  extension = None;
}

written_1 : (write_sequence (rtp_packet_writes High value_1 ++ align ∷ []) 0 ≡ bits High row_1)
    × ((rtp_packet_decoder High).reads 0 (bits High row_1)
    ≡ Done (length (write_sequence (rtp_packet_writes High value_1) 0)) (Ok (Ok value_1)))
unfolding row_1 value_1 and_then digits digits_number bytes_of unsigned unsigned_decoder const_decoder bytes_decoder
    items_decoder size_in_units stated_size stored_size stored_encoder
written_1 = (refl, refl)

row_2 : List ℕ
row_2 = 64 ∷ 64 ∷ 241 ∷ 123 ∷ []

refused_2 : sure_answer ((rtp_packet_decoder High).reads 0 (bits High row_2)) ≡ Ok (Err OtherVersion)
unfolding row_2 and_then digits digits_number bytes_of unsigned unsigned_decoder const_decoder bytes_decoder
    items_decoder size_in_units stated_size stored_size stored_encoder
refused_2 = refl
