-- Made by `./format` from formats/ipv4_header.fields: edit that file and make this one anew.
-- Worked rows of an `Ipv4Header`.
use Rattle.protocols.specs.Ipv4Header.{ipv4_header_decoder, ipv4_header_writes}
use Rattle.bitstream_io.specs.Codec.{and_then}
use Rattle.bitstream_io.specs.Word.{digits, digits_number, bytes_of}
use Rattle.bitstream_io.specs.WriteTable.{unsigned}
use Rattle.bitstream_io.specs.ReadTable.{unsigned_decoder, const_decoder, bytes_decoder}
use Rattle.protocols.specs.declared.ipv4_header.Ipv4Header.{Ipv4Header}
use Rattle.protocols.specs.declared.ipv4_header.Ipv4Error.TheVariants.{OtherVersion}
use Rattle.protocols.specs.declared.ipv4_header.Ecn.TheVariants.{NotCapable}
use Rattle.protocols.specs.declared.ipv4_header.Protocol.TheVariants.{Udp}
use Rattle.std.proofs.Common.{◌≡◌, ◌++◌, ◌∷◌, [], ℕ, true, false, List, Ok, Err, length, refl}
use Rattle.bitstream_io.specs.Callers.{Done, High, bits, align, write_sequence, sure_answer}

row_0 : List ℕ
row_0 = 69 ∷ 0 ∷ 0 ∷ 61 ∷ 255 ∷ 223 ∷ 64 ∷ 0 ∷ 64 ∷ 17 ∷ 60 ∷ 206 ∷ 127 ∷ 0 ∷ 0 ∷ 1 ∷ 127 ∷ 0 ∷ 0 ∷ 1 ∷ []

value_0 : Ipv4Header
value_0 = record {
  words = 5;
  dscp = 0;
  ecn = NotCapable;
  size = 61;
  id = 65503;
  keep_whole = true;
  fragments_follow = false;
  offset = 0;
  ttl = 64;
  protocol = Udp;
  checksum = 15566;
  source = 127 ∷ 0 ∷ 0 ∷ 1 ∷ [];
  target = 127 ∷ 0 ∷ 0 ∷ 1 ∷ [];
}

written_0 : (write_sequence (ipv4_header_writes High value_0 ++ align ∷ []) 0 ≡ bits High row_0)
    × ((ipv4_header_decoder High).reads 0 (bits High row_0)
    ≡ Done (length (write_sequence (ipv4_header_writes High value_0) 0)) (Ok (Ok value_0)))
unfolding row_0 value_0 and_then digits digits_number bytes_of unsigned unsigned_decoder const_decoder bytes_decoder
written_0 = (refl, refl)

row_1 : List ℕ
row_1 = 96 ∷ 13 ∷ 93 ∷ 222 ∷ []

refused_1 : sure_answer ((ipv4_header_decoder High).reads 0 (bits High row_1)) ≡ Ok (Err OtherVersion)
unfolding row_1 and_then digits digits_number bytes_of unsigned unsigned_decoder const_decoder bytes_decoder
refused_1 = refl
