-- Made by `./format` from formats/ntp_packet.fields: edit that file and make this one anew.
-- Worked rows of a `NtpPacket`.
use Rattle.protocols.specs.NtpPacket.{ntp_packet_decoder, ntp_packet_writes}
use Rattle.bitstream_io.specs.Codec.{and_then}
use Rattle.bitstream_io.specs.Word.{digits, digits_number, bytes_of}
use Rattle.bitstream_io.specs.WriteTable.{unsigned, signed}
use Rattle.bitstream_io.specs.ReadTable.{unsigned_decoder, signed_decoder, bytes_decoder}
use Rattle.protocols.specs.declared.ntp_packet.NtpPacket.{NtpPacket}
use Rattle.protocols.specs.declared.ntp_packet.Leap.TheVariants.{Unsynchronized}
use Rattle.protocols.specs.declared.ntp_packet.Mode.TheVariants.{Active}
use Rattle.std.proofs.Common.{◌≡◌, ◌++◌, ◌∷◌, [], ℕ, List, Ok, length, refl}
use Rattle.std.specs.Prelude.{pos, negsuc}
use Rattle.bitstream_io.specs.Callers.{Done, High, bits, align, write_sequence}

row_0 : List ℕ
row_0 = 217 ∷ 0 ∷ 10 ∷ 250 ∷ 0 ∷ 0 ∷ 0 ∷ 0 ∷ 0 ∷ 1 ∷ 2 ∷ 144 ∷ 0 ∷ 0 ∷ 0 ∷ 0 ∷ 0 ∷ 0 ∷ 0 ∷ 0 ∷ 0 ∷ 0 ∷ 0 ∷ 0 ∷ 0 ∷ 0 ∷ 0
    ∷ 0 ∷ 0 ∷ 0 ∷ 0 ∷ 0 ∷ 0 ∷ 0 ∷ 0 ∷ 0 ∷ 0 ∷ 0 ∷ 0 ∷ 0 ∷ 197 ∷ 2 ∷ 4 ∷ 236 ∷ 236 ∷ 66 ∷ 238 ∷ 146 ∷ []

value_0 : NtpPacket
value_0 = record {
  leap = Unsynchronized;
  version = 3;
  mode = Active;
  stratum = 0;
  poll = pos 10;
  precision = negsuc 5;
  root_delay = 0;
  root_dispersion = 66192;
  reference = 0 ∷ 0 ∷ 0 ∷ 0 ∷ [];
  updated = record { seconds = 0; fraction = 0 };
  origin = record { seconds = 0; fraction = 0 };
  received = record { seconds = 0; fraction = 0 };
  sent = record { seconds = 3305243884; fraction = 3963809426 };
}

written_0 : (write_sequence (ntp_packet_writes High value_0 ++ align ∷ []) 0 ≡ bits High row_0)
    × ((ntp_packet_decoder High).reads 0 (bits High row_0)
    ≡ Done (length (write_sequence (ntp_packet_writes High value_0) 0)) (Ok value_0))
unfolding row_0 value_0 and_then digits digits_number bytes_of unsigned signed unsigned_decoder signed_decoder
    bytes_decoder
written_0 = (refl, refl)
