-- Made by `./format` from formats/acl_packet.fields: edit that file and make this one anew.
-- Worked rows of an `AclPacket`.
use Rattle.bitstream_messages.specs.AclPacket.{acl_packet_decoder, acl_packet_writes}
use Rattle.bitstream_io.specs.Codec.{and_then}
use Rattle.bitstream_io.specs.Word.{digits, digits_number, bytes_of}
use Rattle.bitstream_io.specs.WriteTable.{unsigned}
use Rattle.bitstream_io.specs.ReadTable.{unsigned_decoder, bytes_decoder}
use Rattle.bitstream_format.specs.Within.{size_encoder}
use Rattle.bitstream_format.specs.Summed.{lines_sum, whole_bytes}
use Rattle.bitstream_format.specs.Stated.{stored_size}
use Rattle.bitstream_messages.specs.declared.acl_packet.AclPacket.{AclPacket}
use Rattle.bitstream_messages.specs.declared.acl_packet.AclPacketError.TheVariants.{OtherLength}
use Rattle.std.proofs.Common.{◌≡◌, ◌++◌, ◌∷◌, [], ℕ, List, Ok, Err, length, refl}
use Rattle.bitstream_io.specs.Callers.{Done, EndOfInput, Low, bits, align, write_sequence, sure_answer}

row_0 : List ℕ
row_0 = 42 ∷ 32 ∷ 7 ∷ 0 ∷ 3 ∷ 0 ∷ 4 ∷ 0 ∷ 2 ∷ 23 ∷ 0 ∷ []

value_0 : AclPacket
value_0 = record {
  handle = 42;
  boundary = 2;
  broadcast = 0;
  channel = 4;
  payload = 2 ∷ 23 ∷ 0 ∷ [];
}

written_0 : (write_sequence (acl_packet_writes Low value_0 ++ align ∷ []) 0 ≡ bits Low row_0)
    × ((acl_packet_decoder Low).reads 0 (bits Low row_0)
    ≡ Done (length (write_sequence (acl_packet_writes Low value_0) 0)) (Ok (Ok value_0)))
unfolding row_0 value_0 and_then digits digits_number bytes_of unsigned unsigned_decoder bytes_decoder size_encoder
    lines_sum whole_bytes stored_size
written_0 = (refl, refl)

row_1 : List ℕ
row_1 = 42 ∷ 32 ∷ 8 ∷ 0 ∷ 3 ∷ 0 ∷ 4 ∷ 0 ∷ 2 ∷ 23 ∷ 0 ∷ []

refused_1 : sure_answer ((acl_packet_decoder Low).reads 0 (bits Low row_1)) ≡ Ok (Err OtherLength)
unfolding row_1 and_then digits digits_number bytes_of unsigned unsigned_decoder bytes_decoder size_encoder lines_sum
    whole_bytes stored_size
refused_1 = refl

row_2 : List ℕ
row_2 = 42 ∷ 32 ∷ 7 ∷ 0 ∷ 3 ∷ 0 ∷ 4 ∷ 0 ∷ 2 ∷ []

refused_2 : sure_answer ((acl_packet_decoder Low).reads 0 (bits Low row_2)) ≡ Err EndOfInput
unfolding row_2 and_then digits digits_number bytes_of unsigned unsigned_decoder bytes_decoder size_encoder lines_sum
    whole_bytes stored_size
refused_2 = refl
