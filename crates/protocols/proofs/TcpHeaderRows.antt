-- Made by `./format` from formats/tcp_header.fields: edit that file and make this one anew.
-- Worked rows of a `TcpHeader`.
use Rattle.protocols.specs.TcpHeader.{tcp_header_decoder, tcp_header_writes}
use Rattle.bitstream_io.specs.Codec.{and_then}
use Rattle.bitstream_io.specs.Word.{digits, digits_number}
use Rattle.bitstream_io.specs.WriteTable.{unsigned}
use Rattle.bitstream_io.specs.ReadTable.{unsigned_decoder, skip_decoder}
use Rattle.protocols.specs.declared.tcp_header.TcpHeader.{TcpHeader}
use Rattle.std.proofs.Common.{◌≡◌, ◌++◌, ◌∷◌, [], ℕ, true, false, List, Ok, length, refl}
use Rattle.bitstream_io.specs.Callers.{Done, High, bits, align, write_sequence}

row_0 : List ℕ
row_0 = 149 ∷ 22 ∷ 31 ∷ 144 ∷ 237 ∷ 180 ∷ 231 ∷ 190 ∷ 0 ∷ 0 ∷ 0 ∷ 0 ∷ 160 ∷ 2 ∷ 255 ∷ 215 ∷ 254 ∷ 48 ∷ 0 ∷ 0 ∷ []

value_0 : TcpHeader
value_0 = record {
  source = 38166;
  target = 8080;
  sequence = 3988055998;
  acknowledged = 0;
  data_offset = 10;
  cwr = false;
  ece = false;
  urg = false;
  ack = false;
  psh = false;
  rst = false;
  syn = true;
  fin = false;
  window = 65495;
  checksum = 65072;
  urgent = 0;
}

written_0 : (write_sequence (tcp_header_writes High value_0 ++ align ∷ []) 0 ≡ bits High row_0)
    × ((tcp_header_decoder High).reads 0 (bits High row_0)
    ≡ Done (length (write_sequence (tcp_header_writes High value_0) 0)) (Ok value_0))
unfolding row_0 value_0 and_then digits digits_number unsigned unsigned_decoder skip_decoder
written_0 = (refl, refl)
