-- Made by `./format` from formats/dns_label.fields: edit that file and make this one anew.
-- Worked rows of a `DnsLabel`.
use Rattle.bitstream_messages.specs.DnsLabel.{dns_label_decoder, dns_label_writes}
use Rattle.bitstream_io.specs.Codec.{and_then}
use Rattle.bitstream_io.specs.Word.{digits, digits_number, bytes_of}
use Rattle.bitstream_io.specs.WriteTable.{unsigned}
use Rattle.bitstream_io.specs.ReadTable.{unsigned_decoder, bytes_decoder}
use Rattle.bitstream_messages.specs.declared.dns_label.DnsLabel.{DnsLabel}
use Rattle.bitstream_messages.specs.declared.dns_label.DnsLabelError.TheVariants.{NoBody}
use Rattle.bitstream_messages.specs.declared.dns_label.Body.TheVariants.{Text as BodyText, Pointer as BodyPointer}
use Rattle.std.proofs.Common.{◌≡◌, ◌++◌, ◌∷◌, [], ℕ, List, Ok, Err, length, refl}
use Rattle.bitstream_io.specs.Callers.{Done, EndOfInput, High, bits, align, write_sequence, sure_answer}

row_0 : List ℕ
row_0 = 3 ∷ 70 ∷ 79 ∷ 79 ∷ []

value_0 : DnsLabel
value_0 = record {
  body = BodyText (record { octets = 70 ∷ 79 ∷ 79 ∷ [] });
}

written_0 : (write_sequence (dns_label_writes High value_0 ++ align ∷ []) 0 ≡ bits High row_0)
    × ((dns_label_decoder High).reads 0 (bits High row_0)
    ≡ Done (length (write_sequence (dns_label_writes High value_0) 0)) (Ok (Ok value_0)))
unfolding row_0 value_0 and_then digits digits_number bytes_of unsigned unsigned_decoder bytes_decoder
written_0 = (refl, refl)

row_1 : List ℕ
row_1 = 192 ∷ 20 ∷ []

value_1 : DnsLabel
value_1 = record {
  body = BodyPointer (record { offset = 20 });
}

written_1 : (write_sequence (dns_label_writes High value_1 ++ align ∷ []) 0 ≡ bits High row_1)
    × ((dns_label_decoder High).reads 0 (bits High row_1)
    ≡ Done (length (write_sequence (dns_label_writes High value_1) 0)) (Ok (Ok value_1)))
unfolding row_1 value_1 and_then digits digits_number bytes_of unsigned unsigned_decoder bytes_decoder
written_1 = (refl, refl)

row_2 : List ℕ
row_2 = 0 ∷ []

value_2 : DnsLabel
value_2 = record {
  body = BodyText (record { octets = [] });
}

written_2 : (write_sequence (dns_label_writes High value_2 ++ align ∷ []) 0 ≡ bits High row_2)
    × ((dns_label_decoder High).reads 0 (bits High row_2)
    ≡ Done (length (write_sequence (dns_label_writes High value_2) 0)) (Ok (Ok value_2)))
unfolding row_2 value_2 and_then digits digits_number bytes_of unsigned unsigned_decoder bytes_decoder
written_2 = (refl, refl)

row_3 : List ℕ
row_3 = 64 ∷ []

refused_3 : sure_answer ((dns_label_decoder High).reads 0 (bits High row_3)) ≡ Ok (Err NoBody)
unfolding row_3 and_then digits digits_number bytes_of unsigned unsigned_decoder bytes_decoder
refused_3 = refl

row_4 : List ℕ
row_4 = 3 ∷ 70 ∷ 79 ∷ []

refused_4 : sure_answer ((dns_label_decoder High).reads 0 (bits High row_4)) ≡ Err EndOfInput
unfolding row_4 and_then digits digits_number bytes_of unsigned unsigned_decoder bytes_decoder
refused_4 = refl
