-- Made by `./format` from formats/arp_packet.fields: edit that file and make this one anew.
-- Worked rows of an `ArpPacket`.
use Rattle.protocols.specs.ArpPacket.{arp_packet_decoder, arp_packet_writes}
use Rattle.bitstream_io.specs.Codec.{and_then}
use Rattle.bitstream_io.specs.Word.{digits, digits_number, bytes_of}
use Rattle.bitstream_io.specs.WriteTable.{unsigned}
use Rattle.bitstream_io.specs.ReadTable.{unsigned_decoder, const_decoder, bytes_decoder}
use Rattle.protocols.specs.declared.arp_packet.ArpPacket.{ArpPacket}
use Rattle.protocols.specs.declared.arp_packet.ArpError.TheVariants.{OtherProtocol}
use Rattle.protocols.specs.declared.arp_packet.Operation.TheVariants.{Request}
use Rattle.std.proofs.Common.{◌≡◌, ◌++◌, ◌∷◌, [], ℕ, List, Ok, Err, length, refl}
use Rattle.bitstream_io.specs.Callers.{Done, High, bits, align, write_sequence, sure_answer}

row_0 : List ℕ
row_0 = 0 ∷ 1 ∷ 8 ∷ 0 ∷ 6 ∷ 4 ∷ 0 ∷ 1 ∷ 2 ∷ 0 ∷ 0 ∷ 0 ∷ 0 ∷ 10 ∷ 198 ∷ 51 ∷ 100 ∷ 1 ∷ 0 ∷ 0 ∷ 0 ∷ 0 ∷ 0 ∷ 0 ∷ 198 ∷ 51 ∷
    100 ∷ 2 ∷ []

value_0 : ArpPacket
value_0 = record {
  operation = Request;
  sender_hardware = 2 ∷ 0 ∷ 0 ∷ 0 ∷ 0 ∷ 10 ∷ [];
  sender_protocol = 198 ∷ 51 ∷ 100 ∷ 1 ∷ [];
  target_hardware = 0 ∷ 0 ∷ 0 ∷ 0 ∷ 0 ∷ 0 ∷ [];
  target_protocol = 198 ∷ 51 ∷ 100 ∷ 2 ∷ [];
}

written_0 : (write_sequence (arp_packet_writes High value_0 ++ align ∷ []) 0 ≡ bits High row_0)
    × ((arp_packet_decoder High).reads 0 (bits High row_0)
    ≡ Done (length (write_sequence (arp_packet_writes High value_0) 0)) (Ok (Ok value_0)))
unfolding row_0 value_0 and_then digits digits_number bytes_of unsigned unsigned_decoder const_decoder bytes_decoder
written_0 = (refl, refl)

row_1 : List ℕ
row_1 = 0 ∷ 1 ∷ 134 ∷ 221 ∷ []

refused_1 : sure_answer ((arp_packet_decoder High).reads 0 (bits High row_1)) ≡ Ok (Err OtherProtocol)
unfolding row_1 and_then digits digits_number bytes_of unsigned unsigned_decoder const_decoder bytes_decoder
refused_1 = refl
