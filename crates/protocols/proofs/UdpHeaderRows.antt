-- Made by `./format` from formats/udp_header.fields: edit that file and make this one anew.
-- Worked rows of an `UdpHeader`.
use Rattle.protocols.specs.UdpHeader.{udp_header_decoder, udp_header_writes}
use Rattle.bitstream_io.specs.Codec.{and_then}
use Rattle.bitstream_io.specs.Word.{digits, digits_number}
use Rattle.bitstream_io.specs.WriteTable.{unsigned}
use Rattle.bitstream_io.specs.ReadTable.{unsigned_decoder}
use Rattle.protocols.specs.declared.udp_header.UdpHeader.{UdpHeader}
use Rattle.std.proofs.Common.{◌≡◌, ◌++◌, ◌∷◌, [], ℕ, List, Ok, length, refl}
use Rattle.bitstream_io.specs.Callers.{Done, High, bits, align, write_sequence}

row_0 : List ℕ
row_0 = 193 ∷ 226 ∷ 0 ∷ 53 ∷ 0 ∷ 41 ∷ 254 ∷ 60 ∷ []

value_0 : UdpHeader
value_0 = record {
  source = 49634;
  target = 53;
  size = 41;
  checksum = 65084;
}

written_0 : (write_sequence (udp_header_writes High value_0 ++ align ∷ []) 0 ≡ bits High row_0)
    × ((udp_header_decoder High).reads 0 (bits High row_0)
    ≡ Done (length (write_sequence (udp_header_writes High value_0) 0)) (Ok value_0))
unfolding row_0 value_0 and_then digits digits_number unsigned unsigned_decoder
written_0 = (refl, refl)
