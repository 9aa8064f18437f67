-- Made by `./format --c` from ../protocols/formats/rtcp_receiver_report.fields: edit that file and make this one anew.
-- A `RtcpReceiverReport` as C sees it.
use Rattle.protocols_c.specs.Lists.{stored}
use Rattle.protocols_c.specs.Parts.{all_made}
use Rattle.protocols_c.specs.declared.rtcp_receiver_report.RtcpReceiverReportGiven.{RtcpReceiverReportGiven}
use Rattle.protocols_c.specs.declared.rtcp_receiver_report.RtcpReceiverReportC.{RtcpReceiverReportC}
use Rattle.protocols_c.specs.declared.rtcp_receiver_report.RtcpReceiverReportParsed.{RtcpReceiverReportParsed}
use Rattle.protocols_c.specs.ReportBlock.{report_block_to_c, report_block_from_c}
use Rattle.protocols_c.specs.declared.report_block.ReportBlockC.{ReportBlockC}
use Rattle.protocols.specs.RtcpReceiverReport.{rtcp_receiver_report_decoder, rtcp_receiver_report_size, rtcp_receiver_report_bits, becomes_rtcp_receiver_report}
use Rattle.protocols.specs.declared.rtcp_receiver_report.RtcpReceiverReport.{RtcpReceiverReport}
use Rattle.protocols.specs.declared.rtcp_receiver_report.ReceiverReportError.{ReceiverReportError}
use Rattle.protocols.specs.declared.rtcp_receiver_report.ReceiverReportError.TheVariants.{Reader, OtherVersion, OtherPacket}
use Rattle.protocols.specs.declared.report_block.ReportBlock.{ReportBlock}
use Rattle.std.specs.Prelude.{◌≡◌, ◌+◌, ◌/◌, [], ◌==◌, if◌then◌else◌, ℕ, ℤ, Bool, not, List, Result, Ok, Err, Option, Some, None, length, map, pos, nat_lt, filter_map}
use Rattle.bitstream_io.specs.Reads.{BitSource}
use Rattle.bitstream_io.specs.Codec.{Prefix, Incomplete, Done}
use Rattle.bitstream_io.specs.Callers.{High, ReadsOwn, result_map}

-- the struct of C with these fields
abbrev pub rtcp_receiver_report_to_c : RtcpReceiverReport → RtcpReceiverReportC
rtcp_receiver_report_to_c value = record {
  padding = if value.padding then 1 else 0;
  length = value.length;
  ssrc = value.ssrc;
  reports = length value.reports;
}

-- the fields of a struct of C, of which some are made already
abbrev pub rtcp_receiver_report_made : RtcpReceiverReportC → List ReportBlockC → Option (List ReportBlock) → Option RtcpReceiverReport
rtcp_receiver_report_made c reports_items (Some reports) = Some (record {
  padding = not (c.padding == 0);
  length = c.length;
  ssrc = c.ssrc;
  reports = reports;
})
rtcp_receiver_report_made c reports_items None = None

-- the fields of a struct of C, or none if a number of C is no value of its field
abbrev pub rtcp_receiver_report_from_c : RtcpReceiverReportC → List ReportBlockC → Option RtcpReceiverReport
rtcp_receiver_report_from_c c reports_items = rtcp_receiver_report_made c reports_items (all_made report_block_from_c reports_items)

-- the struct of C after an error
abbrev pub rtcp_receiver_report_zero : RtcpReceiverReportC
rtcp_receiver_report_zero = record {
  padding = 0;
  length = 0;
  ssrc = 0;
  reports = 0;
}

-- the fields that a value holds
abbrev pub rtcp_receiver_report_of : RtcpReceiverReportGiven → RtcpReceiverReport
rtcp_receiver_report_of value = record {
  padding = value.padding;
  length = value.length;
  ssrc = value.ssrc;
  reports = filter_map report_block_from_c value.reports.now;
}

-- the number of bytes of fields
abbrev pub rtcp_receiver_report_bytes : RtcpReceiverReport → ℕ
rtcp_receiver_report_bytes value = (rtcp_receiver_report_size High value + 7) / 8

-- the number of bytes of the fields of a struct of C, if it has fields
abbrev pub rtcp_receiver_report_room : Option RtcpReceiverReport → ℕ
rtcp_receiver_report_room (Some value) = rtcp_receiver_report_bytes value
rtcp_receiver_report_room None = 0

-- the result of a parse that failed, with a number of items that there is no room for
abbrev pub rtcp_receiver_report_short : ℤ → ℕ → RtcpReceiverReportParsed
rtcp_receiver_report_short status items = record { status = status; taken = items; value = rtcp_receiver_report_zero }

-- the same without such a number
abbrev pub rtcp_receiver_report_failed : ℤ → RtcpReceiverReportParsed
rtcp_receiver_report_failed status = rtcp_receiver_report_short status 0

-- the result of a parse for C: 0, the number of bytes that were taken and the fields, or a list that has more items
-- than there is room for, with their number, or which error
abbrev pub rtcp_receiver_report_parsed : ℕ → ℕ → Result RtcpReceiverReportC ReceiverReportError → RtcpReceiverReportParsed
rtcp_receiver_report_parsed taken reports_room (Ok c) = if nat_lt reports_room c.reports then rtcp_receiver_report_short (pos 5) c.reports else record { status = pos 0; taken = taken; value = c }
rtcp_receiver_report_parsed taken reports_room (Err (Reader e)) = rtcp_receiver_report_failed (pos 1)
rtcp_receiver_report_parsed taken reports_room (Err OtherVersion) = rtcp_receiver_report_failed (pos 6)
rtcp_receiver_report_parsed taken reports_room (Err OtherPacket) = rtcp_receiver_report_failed (pos 7)

-- the same for what the decoder says of all bits: too few, or its result after the first n
abbrev pub rtcp_receiver_report_answer : ℕ → Prefix (Result RtcpReceiverReport ReceiverReportError) → RtcpReceiverReportParsed
rtcp_receiver_report_answer reports_room Incomplete = rtcp_receiver_report_failed (pos 1)
rtcp_receiver_report_answer reports_room (Done n (Ok x)) = rtcp_receiver_report_parsed ((n + 7) / 8) reports_room (result_map rtcp_receiver_report_to_c x)
rtcp_receiver_report_answer reports_room (Done n (Err e)) = rtcp_receiver_report_failed (pos 1)

-- A read whose lists are stored: `found` is what the decoder says, and the slices hold the items of its lists.
pub record RtcpReceiverReportRead {R : Type 0} (K : BitSource R) (old : R) (reports_was : List ReportBlockC)
    (result : Result RtcpReceiverReportC ReceiverReportError) (new : R) (reports_now : List ReportBlockC) : Type 0 where
  pub found : Result RtcpReceiverReport ReceiverReportError
  pub reads : ReadsOwn K becomes_rtcp_receiver_report (rtcp_receiver_report_decoder K.order) old found new
  pub told : result ≡ result_map rtcp_receiver_report_to_c found
  pub reports_items : (value : RtcpReceiverReport) → found ≡ Ok value → reports_now ≡ stored (map report_block_to_c value.reports) reports_was

-- the bits of the fields of a struct of C, if it has fields
abbrev pub rtcp_receiver_report_held : Option RtcpReceiverReport → List Bool
rtcp_receiver_report_held (Some value) = rtcp_receiver_report_bits value
rtcp_receiver_report_held None = []
