-- Made by `./format` from formats/icmp_message.fields: edit that file and make this one anew.
-- Worked rows of an `IcmpMessage`.
use Rattle.network_messages.specs.IcmpMessage.{icmp_message_decoder, icmp_message_writes}
use Rattle.bitstream_io.specs.Codec.{and_then}
use Rattle.bitstream_io.specs.Word.{digits, digits_number, bytes_of}
use Rattle.bitstream_io.specs.WriteTable.{unsigned}
use Rattle.bitstream_io.specs.ReadTable.{unsigned_decoder, bytes_decoder}
use Rattle.bitstream_format.specs.Checks.{sum16_state}
use Rattle.network_messages.specs.declared.icmp_message.IcmpMessage.{IcmpMessage}
use Rattle.network_messages.specs.declared.icmp_message.IcmpMessageError.TheVariants.{WrongSum}
use Rattle.network_messages.specs.declared.icmp_message.Echo.TheVariants.{Reply, Request}
use Rattle.std.proofs.Common.{◌≡◌, ◌++◌, ◌∷◌, [], ℕ, List, Ok, Err, length, refl}
use Rattle.bitstream_io.specs.Callers.{Done, High, bits, align, write_sequence, sure_answer}

row_0 : List ℕ
row_0 = 8 ∷ 0 ∷ 97 ∷ 151 ∷ 4 ∷ 210 ∷ 0 ∷ 1 ∷ 97 ∷ 98 ∷ 99 ∷ 100 ∷ 101 ∷ 102 ∷ 103 ∷ 104 ∷ []

value_0 : IcmpMessage
value_0 = record {
  kind = Request;
  code = 0;
  identifier = 1234;
  sequence = 1;
  «data» = 97 ∷ 98 ∷ 99 ∷ 100 ∷ 101 ∷ 102 ∷ 103 ∷ 104 ∷ [];
}

written_0 : (write_sequence (icmp_message_writes High value_0 ++ align ∷ []) 0 ≡ bits High row_0)
    × ((icmp_message_decoder High 8).reads 0 (bits High row_0)
    ≡ Done (length (write_sequence (icmp_message_writes High value_0) 0)) (Ok (Ok value_0)))
unfolding row_0 value_0 and_then digits digits_number bytes_of unsigned unsigned_decoder bytes_decoder sum16_state
written_0 = (refl, refl)

row_1 : List ℕ
row_1 = 0 ∷ 0 ∷ 255 ∷ 255 ∷ 0 ∷ 0 ∷ 0 ∷ 0 ∷ []

value_1 : IcmpMessage
value_1 = record {
  kind = Reply;
  code = 0;
  identifier = 0;
  sequence = 0;
  «data» = [];
}

written_1 : (write_sequence (icmp_message_writes High value_1 ++ align ∷ []) 0 ≡ bits High row_1)
    × ((icmp_message_decoder High 0).reads 0 (bits High row_1)
    ≡ Done (length (write_sequence (icmp_message_writes High value_1) 0)) (Ok (Ok value_1)))
unfolding row_1 value_1 and_then digits digits_number bytes_of unsigned unsigned_decoder bytes_decoder sum16_state
written_1 = (refl, refl)

row_2 : List ℕ
row_2 = 8 ∷ 0 ∷ 0 ∷ 0 ∷ 0 ∷ 1 ∷ 0 ∷ 2 ∷ []

refused_2 : sure_answer ((icmp_message_decoder High 0).reads 0 (bits High row_2)) ≡ Ok (Err WrongSum)
unfolding row_2 and_then digits digits_number bytes_of unsigned unsigned_decoder bytes_decoder sum16_state
refused_2 = refl
