-- Made by `./format` from formats/ipv4_packet.fields: edit that file and make this one anew.
-- Worked rows of an `Ipv4Packet`.
use Rattle.network_messages.specs.Ipv4Packet.{ipv4_packet_decoder, ipv4_packet_writes}
use Rattle.bitstream_format.specs.Stated.{size_in_units, stored_encoder, stored_size}
use Rattle.bitstream_io.specs.Codec.{and_then}
use Rattle.bitstream_io.specs.Word.{digits, digits_number, bytes_of}
use Rattle.bitstream_io.specs.WriteTable.{unsigned}
use Rattle.bitstream_io.specs.ReadTable.{unsigned_decoder, const_decoder, bytes_decoder}
use Rattle.bitstream_format.specs.Checks.{sum16_state}
use Rattle.bitstream_format.specs.Summed.{lines_sum, whole_bytes}
use Rattle.bitstream_format.specs.Stated.{stated_size}
use Rattle.network_messages.specs.declared.ipv4_packet.Ipv4Packet.{Ipv4Packet}
use Rattle.network_messages.specs.declared.ipv4_packet.Ipv4PacketError.TheVariants.{ShortHeader, WrongSum}
use Rattle.std.proofs.Common.{◌≡◌, ◌++◌, ◌∷◌, [], ℕ, true, false, List, Ok, Err, length, refl}
use Rattle.bitstream_io.specs.Callers.{Done, High, bits, align, write_sequence, sure_answer}

row_0 : List ℕ
row_0 = 72 ∷ 0 ∷ 0 ∷ 42 ∷ 204 ∷ 64 ∷ 64 ∷ 0 ∷ 64 ∷ 17 ∷ 210 ∷ 226 ∷ 198 ∷ 51 ∷ 100 ∷ 1 ∷ 198 ∷ 51 ∷ 100 ∷ 2 ∷ 7 ∷ 11 ∷ 8
    ∷ 198 ∷ 51 ∷ 100 ∷ 1 ∷ 0 ∷ 0 ∷ 0 ∷ 0 ∷ 0 ∷ []

value_0 : Ipv4Packet
value_0 = record {
  service = 0;
  length = 42;
  id = 52288;
  keep_whole = true;
  more = false;
  offset = 0;
  ttl = 64;
  protocol = 17;
  source = 198 ∷ 51 ∷ 100 ∷ 1 ∷ [];
  target = 198 ∷ 51 ∷ 100 ∷ 2 ∷ [];
  options = 7 ∷ 11 ∷ 8 ∷ 198 ∷ 51 ∷ 100 ∷ 1 ∷ 0 ∷ 0 ∷ 0 ∷ 0 ∷ 0 ∷ [];
}

written_0 : (write_sequence (ipv4_packet_writes High value_0 ++ align ∷ []) 0 ≡ bits High row_0)
    × ((ipv4_packet_decoder High).reads 0 (bits High row_0)
    ≡ Done (length (write_sequence (ipv4_packet_writes High value_0) 0)) (Ok (Ok value_0)))
unfolding row_0 value_0 and_then digits digits_number bytes_of unsigned unsigned_decoder const_decoder bytes_decoder
    sum16_state lines_sum whole_bytes size_in_units stated_size stored_size stored_encoder
written_0 = (refl, refl)

row_1 : List ℕ
row_1 = 72 ∷ 0 ∷ 0 ∷ 42 ∷ 204 ∷ 64 ∷ 64 ∷ 0 ∷ 64 ∷ 17 ∷ 210 ∷ 227 ∷ 198 ∷ 51 ∷ 100 ∷ 1 ∷ 198 ∷ 51 ∷ 100 ∷ 2 ∷ 7 ∷ 11 ∷ 8
    ∷ 198 ∷ 51 ∷ 100 ∷ 1 ∷ 0 ∷ 0 ∷ 0 ∷ 0 ∷ 0 ∷ []

refused_1 : sure_answer ((ipv4_packet_decoder High).reads 0 (bits High row_1)) ≡ Ok (Err WrongSum)
unfolding row_1 and_then digits digits_number bytes_of unsigned unsigned_decoder const_decoder bytes_decoder sum16_state
    lines_sum whole_bytes size_in_units stated_size stored_size stored_encoder
refused_1 = refl

row_2 : List ℕ
row_2 = 68 ∷ 0 ∷ 0 ∷ 42 ∷ 204 ∷ 64 ∷ 64 ∷ 0 ∷ 64 ∷ 17 ∷ 210 ∷ 226 ∷ 198 ∷ 51 ∷ 100 ∷ 1 ∷ 198 ∷ 51 ∷ 100 ∷ 2 ∷ []

refused_2 : sure_answer ((ipv4_packet_decoder High).reads 0 (bits High row_2)) ≡ Ok (Err ShortHeader)
unfolding row_2 and_then digits digits_number bytes_of unsigned unsigned_decoder const_decoder bytes_decoder sum16_state
    lines_sum whole_bytes size_in_units stated_size stored_size stored_encoder
refused_2 = refl
