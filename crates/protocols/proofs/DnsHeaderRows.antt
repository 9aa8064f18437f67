-- Made by `./format` from formats/dns_header.fields: edit that file and make this one anew.
-- Worked rows of a `DnsHeader`.
use Rattle.protocols.specs.DnsHeader.{dns_header_decoder, dns_header_writes}
use Rattle.bitstream_io.specs.Codec.{and_then}
use Rattle.bitstream_io.specs.Word.{digits, digits_number}
use Rattle.bitstream_io.specs.WriteTable.{unsigned}
use Rattle.bitstream_io.specs.ReadTable.{unsigned_decoder, const_decoder}
use Rattle.protocols.specs.declared.dns_header.DnsHeader.{DnsHeader}
use Rattle.protocols.specs.declared.dns_header.DnsHeaderError.TheVariants.{ReservedSet}
use Rattle.protocols.specs.declared.dns_header.Code.TheVariants.{NoError}
use Rattle.std.proofs.Common.{◌≡◌, ◌++◌, ◌∷◌, [], ℕ, true, false, List, Ok, Err, length, refl}
use Rattle.bitstream_io.specs.Callers.{Done, High, bits, align, write_sequence, sure_answer}

row_0 : List ℕ
row_0 = 26 ∷ 43 ∷ 129 ∷ 128 ∷ 0 ∷ 1 ∷ 0 ∷ 1 ∷ 0 ∷ 0 ∷ 0 ∷ 0 ∷ []

value_0 : DnsHeader
value_0 = record {
  id = 6699;
  response = true;
  opcode = 0;
  authoritative = false;
  truncated = false;
  recursion = true;
  available = true;
  authentic = false;
  unchecked = false;
  code = NoError;
  questions = 1;
  answers = 1;
  authorities = 0;
  additional = 0;
}

written_0 : (write_sequence (dns_header_writes High value_0 ++ align ∷ []) 0 ≡ bits High row_0)
    × ((dns_header_decoder High).reads 0 (bits High row_0)
    ≡ Done (length (write_sequence (dns_header_writes High value_0) 0)) (Ok (Ok value_0)))
unfolding row_0 value_0 and_then digits digits_number unsigned unsigned_decoder const_decoder
written_0 = (refl, refl)

row_1 : List ℕ
row_1 = 26 ∷ 43 ∷ 1 ∷ 64 ∷ []

refused_1 : sure_answer ((dns_header_decoder High).reads 0 (bits High row_1)) ≡ Ok (Err ReservedSet)
unfolding row_1 and_then digits digits_number unsigned unsigned_decoder const_decoder
refused_1 = refl
