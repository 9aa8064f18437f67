-- Made by `./format` from formats/dns_name.fields: edit that file and make this one anew.
-- Worked rows of a `DnsName`.
use Rattle.bitstream_messages.specs.DnsName.{dns_name_decoder, dns_name_writes}
use Rattle.bitstream_io.specs.Codec.{and_then}
use Rattle.bitstream_io.specs.Word.{digits, digits_number, bytes_of}
use Rattle.bitstream_io.specs.WriteTable.{unsigned}
use Rattle.bitstream_io.specs.ReadTable.{unsigned_decoder, bytes_decoder}
use Rattle.bitstream_format.specs.UpToLast.{up_to_last_from}
use Rattle.bitstream_messages.specs.declared.dns_label.Body.TheVariants.{Text as DnsLabelBodyText, Pointer as DnsLabelBodyPointer}
use Rattle.bitstream_messages.specs.declared.dns_name.DnsName.{DnsName}
use Rattle.std.proofs.Common.{◌≡◌, ◌++◌, ◌∷◌, [], ℕ, List, Ok, Err, length, refl}
use Rattle.bitstream_io.specs.Callers.{Done, EndOfInput, High, bits, align, write_sequence, sure_answer}

row_0 : List ℕ
row_0 = 1 ∷ 70 ∷ 3 ∷ 73 ∷ 83 ∷ 73 ∷ 4 ∷ 65 ∷ 82 ∷ 80 ∷ 65 ∷ 0 ∷ []

value_0 : DnsName
value_0 = record {
  labels = (record { body = DnsLabelBodyText (record { octets = 70 ∷ [] }) }) ∷ (record {
    body = DnsLabelBodyText
        (record { octets = 73 ∷ 83 ∷ 73 ∷ [] });
  }) ∷ (record {
    body = DnsLabelBodyText (record {
      octets = 65 ∷ 82 ∷ 80 ∷
          65 ∷ [];
    });
  }) ∷ (record { body = DnsLabelBodyText (record { octets = [] }) }) ∷ [];
}

written_0 : (write_sequence (dns_name_writes High value_0 ++ align ∷ []) 0 ≡ bits High row_0)
    × ((dns_name_decoder High).reads 0 (bits High row_0)
    ≡ Done (length (write_sequence (dns_name_writes High value_0) 0)) (Ok (Ok value_0)))
unfolding row_0 value_0 and_then digits digits_number bytes_of unsigned unsigned_decoder bytes_decoder up_to_last_from
written_0 = (refl, refl)

row_1 : List ℕ
row_1 = 3 ∷ 70 ∷ 79 ∷ 79 ∷ 192 ∷ 20 ∷ []

value_1 : DnsName
value_1 = record {
  labels = (record { body = DnsLabelBodyText (record { octets = 70 ∷ 79 ∷ 79 ∷ [] }) }) ∷ (record {
    body =
        DnsLabelBodyPointer (record { offset = 20 });
  }) ∷ [];
}

written_1 : (write_sequence (dns_name_writes High value_1 ++ align ∷ []) 0 ≡ bits High row_1)
    × ((dns_name_decoder High).reads 0 (bits High row_1)
    ≡ Done (length (write_sequence (dns_name_writes High value_1) 0)) (Ok (Ok value_1)))
unfolding row_1 value_1 and_then digits digits_number bytes_of unsigned unsigned_decoder bytes_decoder up_to_last_from
written_1 = (refl, refl)

row_2 : List ℕ
row_2 = 192 ∷ 26 ∷ []

value_2 : DnsName
value_2 = record {
  labels = (record { body = DnsLabelBodyPointer (record { offset = 26 }) }) ∷ [];
}

written_2 : (write_sequence (dns_name_writes High value_2 ++ align ∷ []) 0 ≡ bits High row_2)
    × ((dns_name_decoder High).reads 0 (bits High row_2)
    ≡ Done (length (write_sequence (dns_name_writes High value_2) 0)) (Ok (Ok value_2)))
unfolding row_2 value_2 and_then digits digits_number bytes_of unsigned unsigned_decoder bytes_decoder up_to_last_from
written_2 = (refl, refl)

row_3 : List ℕ
row_3 = 0 ∷ []

value_3 : DnsName
value_3 = record {
  labels = (record { body = DnsLabelBodyText (record { octets = [] }) }) ∷ [];
}

written_3 : (write_sequence (dns_name_writes High value_3 ++ align ∷ []) 0 ≡ bits High row_3)
    × ((dns_name_decoder High).reads 0 (bits High row_3)
    ≡ Done (length (write_sequence (dns_name_writes High value_3) 0)) (Ok (Ok value_3)))
unfolding row_3 value_3 and_then digits digits_number bytes_of unsigned unsigned_decoder bytes_decoder up_to_last_from
written_3 = (refl, refl)

row_4 : List ℕ
row_4 = 3 ∷ 70 ∷ 79 ∷ 79 ∷ []

refused_4 : sure_answer ((dns_name_decoder High).reads 0 (bits High row_4)) ≡ Err EndOfInput
unfolding row_4 and_then digits digits_number bytes_of unsigned unsigned_decoder bytes_decoder up_to_last_from
refused_4 = refl
