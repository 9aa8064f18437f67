-- Made by `./format` from formats/rtcp_sender_report.fields: edit that file and make this one anew.
-- Worked rows of a `RtcpSenderReport`.
use Rattle.protocols.specs.RtcpSenderReport.{rtcp_sender_report_decoder, rtcp_sender_report_writes}
use Rattle.bitstream_io.specs.Codec.{and_then}
use Rattle.bitstream_io.specs.Word.{digits, digits_number}
use Rattle.bitstream_io.specs.WriteTable.{unsigned}
use Rattle.bitstream_io.specs.ReadTable.{unsigned_decoder, const_decoder}
use Rattle.protocols.specs.declared.rtcp_sender_report.RtcpSenderReport.{RtcpSenderReport}
use Rattle.protocols.specs.declared.rtcp_sender_report.RtcpError.TheVariants.{OtherPacket}
use Rattle.std.proofs.Common.{◌≡◌, ◌++◌, ◌∷◌, [], ℕ, false, List, Ok, Err, length, refl}
use Rattle.bitstream_io.specs.Callers.{Done, High, bits, align, write_sequence, sure_answer}

row_0 : List ℕ
row_0 = 128 ∷ 200 ∷ 0 ∷ 6 ∷ 242 ∷ 10 ∷ 237 ∷ 193 ∷ 238 ∷ 181 ∷ 168 ∷ 18 ∷ 224 ∷ 65 ∷ 137 ∷ 55 ∷ 100 ∷ 228 ∷ 234 ∷ 67 ∷ 0
    ∷ 0 ∷ 0 ∷ 0 ∷ 0 ∷ 0 ∷ 0 ∷ 0 ∷ []

value_0 : RtcpSenderReport
value_0 = record {
  padding = false;
  reports = 0;
  length = 6;
  ssrc = 4060802497;
  sent = record { seconds = 4004882450; fraction = 3762391351 };
  timestamp = 1692723779;
  packets = 0;
  octets = 0;
}

written_0 : (write_sequence (rtcp_sender_report_writes High value_0 ++ align ∷ []) 0 ≡ bits High row_0)
    × ((rtcp_sender_report_decoder High).reads 0 (bits High row_0)
    ≡ Done (length (write_sequence (rtcp_sender_report_writes High value_0) 0)) (Ok (Ok value_0)))
unfolding row_0 value_0 and_then digits digits_number unsigned unsigned_decoder const_decoder
written_0 = (refl, refl)

row_1 : List ℕ
row_1 = 128 ∷ 201 ∷ 0 ∷ 1 ∷ []

refused_1 : sure_answer ((rtcp_sender_report_decoder High).reads 0 (bits High row_1)) ≡ Ok (Err OtherPacket)
unfolding row_1 and_then digits digits_number unsigned unsigned_decoder const_decoder
refused_1 = refl
