-- Made by `./format` from formats/rtcp_receiver_report.fields: edit that file and make this one anew.
-- Worked rows of a `RtcpReceiverReport`.
use Rattle.protocols.specs.RtcpReceiverReport.{rtcp_receiver_report_decoder, rtcp_receiver_report_writes}
use Rattle.bitstream_io.specs.Codec.{and_then}
use Rattle.bitstream_io.specs.Word.{digits, digits_number}
use Rattle.bitstream_io.specs.WriteTable.{unsigned, signed}
use Rattle.bitstream_io.specs.ReadTable.{unsigned_decoder, signed_decoder, const_decoder}
use Rattle.bitstream_io.specs.Array.{items_decoder}
use Rattle.protocols.specs.declared.rtcp_receiver_report.RtcpReceiverReport.{RtcpReceiverReport}
use Rattle.protocols.specs.declared.rtcp_receiver_report.ReceiverReportError.TheVariants.{OtherPacket}
use Rattle.std.proofs.Common.{◌≡◌, ◌++◌, ◌∷◌, [], ℕ, false, List, Ok, Err, length, refl}
use Rattle.std.specs.Prelude.{pos, negsuc}
use Rattle.bitstream_io.specs.Callers.{Done, EndOfInput, High, bits, align, write_sequence, sure_answer}

row_0 : List ℕ
row_0 = 129 ∷ 201 ∷ 0 ∷ 7 ∷ 9 ∷ 19 ∷ 134 ∷ 220 ∷ 9 ∷ 19 ∷ 134 ∷ 219 ∷ 0 ∷ 0 ∷ 0 ∷ 0 ∷ 0 ∷ 0 ∷ 3 ∷ 18 ∷ 0 ∷ 0 ∷ 1 ∷ 223 ∷
    15 ∷ 8 ∷ 224 ∷ 196 ∷ 0 ∷ 1 ∷ 130 ∷ 181 ∷ []

value_0 : RtcpReceiverReport
value_0 = record {
  padding = false;
  length = 7;
  ssrc = 152274652;
  reports = (record {
    ssrc = 152274651;
    fraction_lost = 0;
    lost = pos 0;
    highest = 786;
    jitter = 479;
    last_report =
        252240068;
    delay = 98997;
  }) ∷ [];
}

written_0 : (write_sequence (rtcp_receiver_report_writes High value_0 ++ align ∷ []) 0 ≡ bits High row_0)
    × ((rtcp_receiver_report_decoder High).reads 0 (bits High row_0)
    ≡ Done (length (write_sequence (rtcp_receiver_report_writes High value_0) 0)) (Ok (Ok value_0)))
unfolding row_0 value_0 and_then digits digits_number unsigned signed unsigned_decoder signed_decoder const_decoder
    items_decoder
written_0 = (refl, refl)

row_1 : List ℕ
row_1 = 130 ∷ 201 ∷ 0 ∷ 13 ∷ 0 ∷ 0 ∷ 0 ∷ 5 ∷ 0 ∷ 0 ∷ 0 ∷ 1 ∷ 64 ∷ 255 ∷ 255 ∷ 254 ∷ 0 ∷ 1 ∷ 241 ∷ 123 ∷ 0 ∷ 0 ∷ 0 ∷ 30 ∷
    168 ∷ 18 ∷ 224 ∷ 65 ∷ 0 ∷ 1 ∷ 0 ∷ 0 ∷ 0 ∷ 0 ∷ 0 ∷ 2 ∷ 255 ∷ 127 ∷ 255 ∷ 255 ∷ 0 ∷ 0 ∷ 0 ∷ 10 ∷ 0 ∷ 0 ∷ 0 ∷ 3 ∷ 0 ∷ 0
    ∷ 0 ∷ 0 ∷ 0 ∷ 0 ∷ 0 ∷ 0 ∷ []

value_1 : RtcpReceiverReport
value_1 = record {
  padding = false;
  length = 13;
  ssrc = 5;
  reports = (record {
    ssrc = 1;
    fraction_lost = 64;
    lost = negsuc 1;
    highest = 127355;
    jitter = 30;
    last_report =
        2819809345;
    delay = 65536;
  }) ∷ (record {
    ssrc = 2;
    fraction_lost = 255;
    lost = pos 8388607;
    highest = 10;
    jitter =
        3;
    last_report = 0;
    delay = 0;
  }) ∷ [];
}

written_1 : (write_sequence (rtcp_receiver_report_writes High value_1 ++ align ∷ []) 0 ≡ bits High row_1)
    × ((rtcp_receiver_report_decoder High).reads 0 (bits High row_1)
    ≡ Done (length (write_sequence (rtcp_receiver_report_writes High value_1) 0)) (Ok (Ok value_1)))
unfolding row_1 value_1 and_then digits digits_number unsigned signed unsigned_decoder signed_decoder const_decoder
    items_decoder
written_1 = (refl, refl)

row_2 : List ℕ
row_2 = 128 ∷ 201 ∷ 0 ∷ 1 ∷ 0 ∷ 0 ∷ 0 ∷ 5 ∷ []

value_2 : RtcpReceiverReport
value_2 = record {
  padding = false;
  length = 1;
  ssrc = 5;
  reports = [];
}

written_2 : (write_sequence (rtcp_receiver_report_writes High value_2 ++ align ∷ []) 0 ≡ bits High row_2)
    × ((rtcp_receiver_report_decoder High).reads 0 (bits High row_2)
    ≡ Done (length (write_sequence (rtcp_receiver_report_writes High value_2) 0)) (Ok (Ok value_2)))
unfolding row_2 value_2 and_then digits digits_number unsigned signed unsigned_decoder signed_decoder const_decoder
    items_decoder
written_2 = (refl, refl)

row_3 : List ℕ
row_3 = 128 ∷ 200 ∷ 0 ∷ 6 ∷ []

refused_3 : sure_answer ((rtcp_receiver_report_decoder High).reads 0 (bits High row_3)) ≡ Ok (Err OtherPacket)
unfolding row_3 and_then digits digits_number unsigned signed unsigned_decoder signed_decoder const_decoder
    items_decoder
refused_3 = refl

row_4 : List ℕ
row_4 = 129 ∷ 201 ∷ 0 ∷ 7 ∷ 9 ∷ 19 ∷ 134 ∷ 220 ∷ []

refused_4 : sure_answer ((rtcp_receiver_report_decoder High).reads 0 (bits High row_4)) ≡ Err EndOfInput
unfolding row_4 and_then digits digits_number unsigned signed unsigned_decoder signed_decoder const_decoder
    items_decoder
refused_4 = refl
