-- Made by `./format` from formats/udp_datagram.fields: edit that file and make this one anew.
-- Worked rows of an `UdpDatagram`.
use Rattle.network_messages.specs.UdpDatagram.{udp_datagram_decoder, udp_datagram_writes}
use Rattle.bitstream_format.specs.Stated.{size_in_units, stored_encoder, stored_size}
use Rattle.bitstream_io.specs.Codec.{and_then}
use Rattle.bitstream_io.specs.Word.{digits, digits_number, bytes_of}
use Rattle.bitstream_io.specs.WriteTable.{unsigned}
use Rattle.bitstream_io.specs.ReadTable.{unsigned_decoder, skip_decoder, bytes_decoder}
use Rattle.bitstream_format.specs.Checks.{sum16_state}
use Rattle.bitstream_format.specs.Summed.{lines_sum, whole_bytes}
use Rattle.bitstream_format.specs.Stated.{stated_size}
use Rattle.network_messages.specs.declared.udp_datagram.UdpDatagram.{UdpDatagram}
use Rattle.network_messages.specs.declared.udp_datagram.UdpDatagramError.TheVariants.{WrongSum}
use Rattle.std.proofs.Common.{◌≡◌, ◌++◌, ◌∷◌, [], ℕ, List, Ok, Err, length, refl}
use Rattle.bitstream_io.specs.Callers.{Done, EndOfInput, High, bits, align, write_sequence, sure_answer}

row_0 : List ℕ
row_0 = 156 ∷ 64 ∷ 0 ∷ 7 ∷ 0 ∷ 13 ∷ 203 ∷ 79 ∷ 104 ∷ 101 ∷ 108 ∷ 108 ∷ 111 ∷ []

value_0 : UdpDatagram
value_0 = record {
  pseudo = record { source = 198 ∷ 51 ∷ 100 ∷ 1 ∷ []; target = 198 ∷ 51 ∷ 100 ∷ 2 ∷ []; protocol = 17; length = 13 };
  source = 40000;
  target = 7;
  «data» = 104 ∷ 101 ∷ 108 ∷ 108 ∷ 111 ∷ [];
}

written_0 : (write_sequence (udp_datagram_writes High value_0 ++ align ∷ []) 0 ≡ bits High row_0)
    × ((udp_datagram_decoder High value_0.pseudo).reads 0 (bits High row_0)
    ≡ Done (length (write_sequence (udp_datagram_writes High value_0) 0)) (Ok (Ok value_0)))
unfolding row_0 value_0 and_then digits digits_number bytes_of unsigned unsigned_decoder skip_decoder bytes_decoder
    sum16_state lines_sum whole_bytes size_in_units stated_size stored_size stored_encoder
written_0 = (refl, refl)

row_1 : List ℕ
row_1 = 156 ∷ 64 ∷ 0 ∷ 7 ∷ 0 ∷ 13 ∷ 203 ∷ 78 ∷ 104 ∷ 101 ∷ 108 ∷ 108 ∷ 111 ∷ []

refused_1 : sure_answer ((udp_datagram_decoder High (record {
  source = 198 ∷ 51 ∷ 100 ∷ 1 ∷ [];
  target = 198 ∷ 51 ∷ 100
      ∷ 2 ∷ [];
  protocol = 17;
  length = 13;
})).reads 0 (bits High row_1)) ≡ Ok (Err WrongSum)
unfolding row_1 and_then digits digits_number bytes_of unsigned unsigned_decoder skip_decoder bytes_decoder sum16_state
    lines_sum whole_bytes size_in_units stated_size stored_size stored_encoder
refused_1 = refl

row_2 : List ℕ
row_2 = 156 ∷ 64 ∷ 0 ∷ 7 ∷ 0 ∷ 13 ∷ 203 ∷ 79 ∷ 104 ∷ 101 ∷ 108 ∷ 108 ∷ 111 ∷ []

refused_2 : sure_answer ((udp_datagram_decoder High (record {
  source = 198 ∷ 51 ∷ 100 ∷ 1 ∷ [];
  target = 198 ∷ 51 ∷ 100
      ∷ 3 ∷ [];
  protocol = 17;
  length = 13;
})).reads 0 (bits High row_2)) ≡ Ok (Err WrongSum)
unfolding row_2 and_then digits digits_number bytes_of unsigned unsigned_decoder skip_decoder bytes_decoder sum16_state
    lines_sum whole_bytes size_in_units stated_size stored_size stored_encoder
refused_2 = refl

row_3 : List ℕ
row_3 = 156 ∷ 64 ∷ 0 ∷ 7 ∷ 0 ∷ 7 ∷ []

refused_3 : sure_answer ((udp_datagram_decoder High (record {
  source = 198 ∷ 51 ∷ 100 ∷ 1 ∷ [];
  target = 198 ∷ 51 ∷ 100
      ∷ 2 ∷ [];
  protocol = 17;
  length = 7;
})).reads 0 (bits High row_3)) ≡ Err EndOfInput
unfolding row_3 and_then digits digits_number bytes_of unsigned unsigned_decoder skip_decoder bytes_decoder sum16_state
    lines_sum whole_bytes size_in_units stated_size stored_size stored_encoder
refused_3 = refl
