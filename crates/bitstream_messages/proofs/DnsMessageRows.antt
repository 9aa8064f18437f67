-- Made by `./format` from formats/dns_message.fields: edit that file and make this one anew.
-- Worked rows of a `DnsMessage`.
use Rattle.bitstream_messages.specs.DnsMessage.{dns_message_decoder, dns_message_writes}
use Rattle.bitstream_io.specs.Codec.{and_then}
use Rattle.bitstream_io.specs.Word.{digits, digits_number, bytes_of}
use Rattle.bitstream_io.specs.WriteTable.{unsigned}
use Rattle.bitstream_io.specs.ReadTable.{unsigned_decoder, const_decoder, bytes_decoder}
use Rattle.bitstream_io.specs.Grows.{parts_decoder}
use Rattle.bitstream_format.specs.Within.{size_encoder}
use Rattle.bitstream_format.specs.UpToLast.{up_to_last_from}
use Rattle.bitstream_messages.specs.declared.dns_label.Body.TheVariants.{Text as DnsLabelBodyText, Pointer as DnsLabelBodyPointer}
use Rattle.bitstream_messages.specs.declared.dns_message.DnsMessage.{DnsMessage}
use Rattle.bitstream_messages.specs.declared.dns_message.DnsMessageError.TheVariants.{ReservedSet}
use Rattle.std.proofs.Common.{◌≡◌, ◌++◌, ◌∷◌, [], ℕ, true, false, List, Ok, Err, length, refl}
use Rattle.bitstream_io.specs.Callers.{Done, High, bits, align, write_sequence, sure_answer}

row_0 : List ℕ
row_0 = 0 ∷ 0 ∷ 1 ∷ 0 ∷ 0 ∷ 1 ∷ 0 ∷ 0 ∷ 0 ∷ 0 ∷ 0 ∷ 0 ∷ 3 ∷ 119 ∷ 119 ∷ 119 ∷ 7 ∷ 101 ∷ 120 ∷ 97 ∷ 109 ∷ 112 ∷ 108 ∷ 101
    ∷ 3 ∷ 99 ∷ 111 ∷ 109 ∷ 0 ∷ 0 ∷ 1 ∷ 0 ∷ 1 ∷ []

value_0 : DnsMessage
value_0 = record {
  id = 0;
  response = false;
  opcode = 0;
  authoritative = false;
  truncated = false;
  recursion = true;
  available = false;
  authentic = false;
  unchecked = false;
  code = 0;
  questions = (record {
    name = record {
      labels = (record {
        body = DnsLabelBodyText (record {
          octets = 119 ∷ 119 ∷ 119 ∷
              [];
        });
      }) ∷ (record { body = DnsLabelBodyText (record { octets = 101 ∷ 120 ∷ 97 ∷ 109 ∷ 112 ∷ 108 ∷ 101 ∷ [] }) })
          ∷ (record { body = DnsLabelBodyText (record { octets = 99 ∷ 111 ∷ 109 ∷ [] }) }) ∷ (record {
            body =
                DnsLabelBodyText (record { octets = [] });
          }) ∷ [];
    };
    kind = 1;
    class = 1;
  }) ∷ [];
  answers = [];
  authorities = [];
  additional = [];
}

written_0 : (write_sequence (dns_message_writes High value_0 ++ align ∷ []) 0 ≡ bits High row_0)
    × ((dns_message_decoder High).reads 0 (bits High row_0)
    ≡ Done (length (write_sequence (dns_message_writes High value_0) 0)) (Ok (Ok value_0)))
unfolding row_0 value_0 and_then digits digits_number bytes_of unsigned unsigned_decoder const_decoder bytes_decoder
    parts_decoder size_encoder up_to_last_from
written_0 = (refl, refl)

row_1 : List ℕ
row_1 = 0 ∷ 0 ∷ 129 ∷ 128 ∷ 0 ∷ 1 ∷ 0 ∷ 1 ∷ 0 ∷ 0 ∷ 0 ∷ 0 ∷ 3 ∷ 119 ∷ 119 ∷ 119 ∷ 7 ∷ 101 ∷ 120 ∷ 97 ∷ 109 ∷ 112 ∷ 108 ∷
    101 ∷ 3 ∷ 99 ∷ 111 ∷ 109 ∷ 0 ∷ 0 ∷ 28 ∷ 0 ∷ 1 ∷ 192 ∷ 12 ∷ 0 ∷ 28 ∷ 0 ∷ 1 ∷ 0 ∷ 0 ∷ 14 ∷ 125 ∷ 0 ∷ 16 ∷ 32 ∷ 1 ∷ 13
    ∷ 184 ∷ 171 ∷ 205 ∷ 0 ∷ 18 ∷ 0 ∷ 1 ∷ 0 ∷ 2 ∷ 0 ∷ 3 ∷ 0 ∷ 4 ∷ []

value_1 : DnsMessage
value_1 = record {
  id = 0;
  response = true;
  opcode = 0;
  authoritative = false;
  truncated = false;
  recursion = true;
  available = true;
  authentic = false;
  unchecked = false;
  code = 0;
  questions = (record {
    name = record {
      labels = (record {
        body = DnsLabelBodyText (record {
          octets = 119 ∷ 119 ∷ 119 ∷
              [];
        });
      }) ∷ (record { body = DnsLabelBodyText (record { octets = 101 ∷ 120 ∷ 97 ∷ 109 ∷ 112 ∷ 108 ∷ 101 ∷ [] }) })
          ∷ (record { body = DnsLabelBodyText (record { octets = 99 ∷ 111 ∷ 109 ∷ [] }) }) ∷ (record {
            body =
                DnsLabelBodyText (record { octets = [] });
          }) ∷ [];
    };
    kind = 28;
    class = 1;
  }) ∷ [];
  answers = (record {
    name = record { labels = (record { body = DnsLabelBodyPointer (record { offset = 12 }) }) ∷ [] };
    kind = 28;
    class = 1;
    ttl = 3709;
    «data» = 32 ∷ 1 ∷ 13 ∷ 184 ∷ 171 ∷ 205 ∷ 0 ∷ 18 ∷ 0 ∷ 1 ∷ 0 ∷ 2 ∷ 0 ∷ 3 ∷ 0 ∷ 4 ∷
        [];
  }) ∷ [];
  authorities = [];
  additional = [];
}

written_1 : (write_sequence (dns_message_writes High value_1 ++ align ∷ []) 0 ≡ bits High row_1)
    × ((dns_message_decoder High).reads 0 (bits High row_1)
    ≡ Done (length (write_sequence (dns_message_writes High value_1) 0)) (Ok (Ok value_1)))
unfolding row_1 value_1 and_then digits digits_number bytes_of unsigned unsigned_decoder const_decoder bytes_decoder
    parts_decoder size_encoder up_to_last_from
written_1 = (refl, refl)

row_2 : List ℕ
row_2 = 0 ∷ 0 ∷ 1 ∷ 64 ∷ []

refused_2 : sure_answer ((dns_message_decoder High).reads 0 (bits High row_2)) ≡ Ok (Err ReservedSet)
unfolding row_2 and_then digits digits_number bytes_of unsigned unsigned_decoder const_decoder bytes_decoder
    parts_decoder size_encoder up_to_last_from
refused_2 = refl
