-- Made by `./format` from formats/ipv6_header.fields: edit that file and make this one anew.
-- Worked rows of an `Ipv6Header`.
use Rattle.protocols.specs.Ipv6Header.{ipv6_header_decoder, ipv6_header_writes}
use Rattle.bitstream_io.specs.Codec.{and_then}
use Rattle.bitstream_io.specs.Word.{digits, digits_number, bytes_of}
use Rattle.bitstream_io.specs.WriteTable.{unsigned}
use Rattle.bitstream_io.specs.ReadTable.{unsigned_decoder, const_decoder, bytes_decoder}
use Rattle.protocols.specs.declared.ipv6_header.Ipv6Header.{Ipv6Header}
use Rattle.protocols.specs.declared.ipv6_header.Ipv6Error.TheVariants.{OtherVersion}
use Rattle.protocols.specs.declared.ipv6_header.Ecn.TheVariants.{NotCapable}
use Rattle.protocols.specs.declared.ipv6_header.Following.TheVariants.{Udp}
use Rattle.std.proofs.Common.{◌≡◌, ◌++◌, ◌∷◌, [], ℕ, List, Ok, Err, length, refl}
use Rattle.bitstream_io.specs.Callers.{Done, High, bits, align, write_sequence, sure_answer}

row_0 : List ℕ
row_0 = 96 ∷ 13 ∷ 93 ∷ 222 ∷ 0 ∷ 13 ∷ 17 ∷ 64 ∷ 0 ∷ 0 ∷ 0 ∷ 0 ∷ 0 ∷ 0 ∷ 0 ∷ 0 ∷ 0 ∷ 0 ∷ 0 ∷ 0 ∷ 0 ∷ 0 ∷ 0 ∷ 1 ∷ 0 ∷ 0 ∷
    0 ∷ 0 ∷ 0 ∷ 0 ∷ 0 ∷ 0 ∷ 0 ∷ 0 ∷ 0 ∷ 0 ∷ 0 ∷ 0 ∷ 0 ∷ 1 ∷ []

value_0 : Ipv6Header
value_0 = record {
  dscp = 0;
  ecn = NotCapable;
  flow = 875998;
  payload_size = 13;
  following = Udp;
  hop_limit = 64;
  source = 0 ∷ 0 ∷ 0 ∷ 0 ∷ 0 ∷ 0 ∷ 0 ∷ 0 ∷ 0 ∷ 0 ∷ 0 ∷ 0 ∷ 0 ∷ 0 ∷ 0 ∷ 1 ∷ [];
  target = 0 ∷ 0 ∷ 0 ∷ 0 ∷ 0 ∷ 0 ∷ 0 ∷ 0 ∷ 0 ∷ 0 ∷ 0 ∷ 0 ∷ 0 ∷ 0 ∷ 0 ∷ 1 ∷ [];
}

written_0 : (write_sequence (ipv6_header_writes High value_0 ++ align ∷ []) 0 ≡ bits High row_0)
    × ((ipv6_header_decoder High).reads 0 (bits High row_0)
    ≡ Done (length (write_sequence (ipv6_header_writes High value_0) 0)) (Ok (Ok value_0)))
unfolding row_0 value_0 and_then digits digits_number bytes_of unsigned unsigned_decoder const_decoder bytes_decoder
written_0 = (refl, refl)

row_1 : List ℕ
row_1 = 69 ∷ 0 ∷ 0 ∷ 61 ∷ []

refused_1 : sure_answer ((ipv6_header_decoder High).reads 0 (bits High row_1)) ≡ Ok (Err OtherVersion)
unfolding row_1 and_then digits digits_number bytes_of unsigned unsigned_decoder const_decoder bytes_decoder
refused_1 = refl
