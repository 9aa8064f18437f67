-- Made by `./format` from formats/icmp_echo.fields: edit that file and make this one anew.
-- Worked rows of an `IcmpEcho`.
use Rattle.protocols.specs.IcmpEcho.{icmp_echo_decoder, icmp_echo_writes}
use Rattle.bitstream_io.specs.Codec.{and_then}
use Rattle.bitstream_io.specs.Word.{digits, digits_number}
use Rattle.bitstream_io.specs.WriteTable.{unsigned}
use Rattle.bitstream_io.specs.ReadTable.{unsigned_decoder, const_decoder}
use Rattle.protocols.specs.declared.icmp_echo.IcmpEcho.{IcmpEcho}
use Rattle.protocols.specs.declared.icmp_echo.IcmpEchoError.TheVariants.{NoEchoKind}
use Rattle.protocols.specs.declared.icmp_echo.EchoKind.TheVariants.{Request, Reply}
use Rattle.std.proofs.Common.{◌≡◌, ◌++◌, ◌∷◌, [], ℕ, List, Ok, Err, length, refl}
use Rattle.bitstream_io.specs.Callers.{Done, High, bits, align, write_sequence, sure_answer}

row_0 : List ℕ
row_0 = 8 ∷ 0 ∷ 97 ∷ 151 ∷ 4 ∷ 210 ∷ 0 ∷ 1 ∷ []

value_0 : IcmpEcho
value_0 = record {
  kind = Request;
  checksum = 24983;
  identifier = 1234;
  sequence = 1;
}

written_0 : (write_sequence (icmp_echo_writes High value_0 ++ align ∷ []) 0 ≡ bits High row_0)
    × ((icmp_echo_decoder High).reads 0 (bits High row_0)
    ≡ Done (length (write_sequence (icmp_echo_writes High value_0) 0)) (Ok (Ok value_0)))
unfolding row_0 value_0 and_then digits digits_number unsigned unsigned_decoder const_decoder
written_0 = (refl, refl)

row_1 : List ℕ
row_1 = 0 ∷ 0 ∷ 105 ∷ 151 ∷ 4 ∷ 210 ∷ 0 ∷ 1 ∷ []

value_1 : IcmpEcho
value_1 = record {
  kind = Reply;
  checksum = 27031;
  identifier = 1234;
  sequence = 1;
}

written_1 : (write_sequence (icmp_echo_writes High value_1 ++ align ∷ []) 0 ≡ bits High row_1)
    × ((icmp_echo_decoder High).reads 0 (bits High row_1)
    ≡ Done (length (write_sequence (icmp_echo_writes High value_1) 0)) (Ok (Ok value_1)))
unfolding row_1 value_1 and_then digits digits_number unsigned unsigned_decoder const_decoder
written_1 = (refl, refl)

row_2 : List ℕ
row_2 = 3 ∷ 3 ∷ 201 ∷ 57 ∷ []

refused_2 : sure_answer ((icmp_echo_decoder High).reads 0 (bits High row_2)) ≡ Ok (Err NoEchoKind)
unfolding row_2 and_then digits digits_number unsigned unsigned_decoder const_decoder
refused_2 = refl
