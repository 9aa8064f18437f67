-- Made by `./format` from formats/icmp_header.fields: edit that file and make this one anew.
-- Worked rows of an `IcmpHeader`.
use Rattle.protocols.specs.IcmpHeader.{icmp_header_decoder, icmp_header_writes}
use Rattle.bitstream_io.specs.Codec.{and_then}
use Rattle.bitstream_io.specs.Word.{digits, digits_number, bytes_of}
use Rattle.bitstream_io.specs.WriteTable.{unsigned}
use Rattle.bitstream_io.specs.ReadTable.{unsigned_decoder, bytes_decoder}
use Rattle.protocols.specs.declared.icmp_header.IcmpHeader.{IcmpHeader}
use Rattle.protocols.specs.declared.icmp_header.Body.TheVariants.{EchoReply as BodyEchoReply, Redirect as BodyRedirect, Echo as BodyEcho, Other as BodyOther}
use Rattle.std.proofs.Common.{◌≡◌, ◌++◌, ◌∷◌, [], ℕ, List, Ok, Err, length, refl}
use Rattle.bitstream_io.specs.Callers.{Done, EndOfInput, High, bits, align, write_sequence, sure_answer}

row_0 : List ℕ
row_0 = 8 ∷ 0 ∷ 97 ∷ 151 ∷ 4 ∷ 210 ∷ 0 ∷ 1 ∷ []

value_0 : IcmpHeader
value_0 = record {
  code = 0;
  checksum = 24983;
  body = BodyEcho (record { identifier = 1234; sequence = 1 });
}

written_0 : (write_sequence (icmp_header_writes High value_0 ++ align ∷ []) 0 ≡ bits High row_0)
    × ((icmp_header_decoder High).reads 0 (bits High row_0)
    ≡ Done (length (write_sequence (icmp_header_writes High value_0) 0)) (Ok value_0))
unfolding row_0 value_0 and_then digits digits_number bytes_of unsigned unsigned_decoder bytes_decoder
written_0 = (refl, refl)

row_1 : List ℕ
row_1 = 0 ∷ 0 ∷ 105 ∷ 151 ∷ 4 ∷ 210 ∷ 0 ∷ 1 ∷ []

value_1 : IcmpHeader
value_1 = record {
  code = 0;
  checksum = 27031;
  body = BodyEchoReply (record { identifier = 1234; sequence = 1 });
}

written_1 : (write_sequence (icmp_header_writes High value_1 ++ align ∷ []) 0 ≡ bits High row_1)
    × ((icmp_header_decoder High).reads 0 (bits High row_1)
    ≡ Done (length (write_sequence (icmp_header_writes High value_1) 0)) (Ok value_1))
unfolding row_1 value_1 and_then digits digits_number bytes_of unsigned unsigned_decoder bytes_decoder
written_1 = (refl, refl)

row_2 : List ℕ
row_2 = 5 ∷ 1 ∷ 58 ∷ 86 ∷ 192 ∷ 168 ∷ 0 ∷ 1 ∷ []

value_2 : IcmpHeader
value_2 = record {
  code = 1;
  checksum = 14934;
  body = BodyRedirect (record { address = 192 ∷ 168 ∷ 0 ∷ 1 ∷ [] });
}

written_2 : (write_sequence (icmp_header_writes High value_2 ++ align ∷ []) 0 ≡ bits High row_2)
    × ((icmp_header_decoder High).reads 0 (bits High row_2)
    ≡ Done (length (write_sequence (icmp_header_writes High value_2) 0)) (Ok value_2))
unfolding row_2 value_2 and_then digits digits_number bytes_of unsigned unsigned_decoder bytes_decoder
written_2 = (refl, refl)

row_3 : List ℕ
row_3 = 3 ∷ 3 ∷ 201 ∷ 57 ∷ []

value_3 : IcmpHeader
value_3 = record {
  code = 3;
  checksum = 51513;
  body = BodyOther 3;
}

written_3 : (write_sequence (icmp_header_writes High value_3 ++ align ∷ []) 0 ≡ bits High row_3)
    × ((icmp_header_decoder High).reads 0 (bits High row_3)
    ≡ Done (length (write_sequence (icmp_header_writes High value_3) 0)) (Ok value_3))
unfolding row_3 value_3 and_then digits digits_number bytes_of unsigned unsigned_decoder bytes_decoder
written_3 = (refl, refl)

row_4 : List ℕ
row_4 = 8 ∷ 0 ∷ 97 ∷ 151 ∷ 4 ∷ 210 ∷ 0 ∷ []

refused_4 : sure_answer ((icmp_header_decoder High).reads 0 (bits High row_4)) ≡ Err EndOfInput
unfolding row_4 and_then digits digits_number bytes_of unsigned unsigned_decoder bytes_decoder
refused_4 = refl
