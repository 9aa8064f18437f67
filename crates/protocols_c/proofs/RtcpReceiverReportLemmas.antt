-- Made by `./format --c` from ../protocols/formats/rtcp_receiver_report.fields: edit that file and make this one anew.
-- When a parse of a `RtcpReceiverReport` succeeds.
use Rattle.protocols_c.specs.RtcpReceiverReport.{rtcp_receiver_report_to_c, rtcp_receiver_report_parsed, rtcp_receiver_report_answer, rtcp_receiver_report_bytes, RtcpReceiverReportRead}
use Rattle.protocols_c.specs.Varied.{IsDecided}
use Rattle.protocols_c.specs.Lists.{stored}
use Rattle.protocols_c.specs.declared.rtcp_receiver_report.RtcpReceiverReportC.{RtcpReceiverReportC}
use Rattle.protocols_c.specs.ReportBlock.{report_block_to_c}
use Rattle.protocols_c.specs.declared.report_block.ReportBlockC.{ReportBlockC}
use Rattle.protocols.specs.RtcpReceiverReport.{rtcp_receiver_report_decoder, rtcp_receiver_report_writes, rtcp_receiver_report_size, rtcp_receiver_report_bits, Fits, becomes_rtcp_receiver_report}
use Rattle.protocols.specs.ReportBlock.{report_block_size, Fits as ReportBlockFits}
use Rattle.protocols.specs.declared.rtcp_receiver_report.RtcpReceiverReport.{RtcpReceiverReport}
use Rattle.protocols.specs.declared.rtcp_receiver_report.ReceiverReportError.{ReceiverReportError}
use Rattle.protocols.specs.declared.rtcp_receiver_report.ReceiverReportError.TheVariants.{Reader}
use Rattle.protocols.proofs.RtcpReceiverReportLemmas.{rtcp_receiver_report_packs, rtcp_receiver_report_goes, told}
use Rattle.protocols_c.proofs.VariedLemmas.{padded}
use Rattle.protocols_c.proofs.PartLemmas.{parts_most}
use Rattle.std.proofs.Common.{◌≡◌, ◌≤◌, ◌∙◌, ◌+◌, ◌/◌, ℕ, List, Result, Ok, Err, map, refl, ap, ap₂, subst, arith}
use Rattle.std.specs.Prelude.{take}
use Rattle.bitstream_io.proofs.CallerLemmas.{is_error}
use Rattle.bitstream_io.specs.Callers.{EndOfInput, Error, High, OwnAnswer, ReadsOwn, BitSource, result_map, bits}
use Rattle.std.specs.Result.{IsErrAnd}
use Rattle.bitstream_io.specs.Codec.{Prefix, Incomplete, Done}

-- what C gets is decided by what the decoder says
answered : (plain : Result (Result RtcpReceiverReport ReceiverReportError) Error) (found : Result RtcpReceiverReport ReceiverReportError) (taken n reports_room : ℕ)
    → OwnAnswer becomes_rtcp_receiver_report (λ y. y) plain found → taken ≡ (n + 7) / 8
    → rtcp_receiver_report_parsed taken reports_room (result_map rtcp_receiver_report_to_c found) ≡ rtcp_receiver_report_answer reports_room (Done n plain)
answered (Ok x) found taken n reports_room is count =
    ap₂ (λ k r. rtcp_receiver_report_parsed k reports_room (result_map rtcp_receiver_report_to_c r)) count is
answered (Err e) found taken n reports_room is count =
    ap (λ r. rtcp_receiver_report_parsed taken reports_room (result_map rtcp_receiver_report_to_c r)) (is_error found (Reader e) is)

pub decided : (prefix : Prefix (Result RtcpReceiverReport ReceiverReportError)) (plain : Result (Result RtcpReceiverReport ReceiverReportError) Error) (found : Result RtcpReceiverReport ReceiverReportError) (taken reports_room : ℕ)
    → IsDecided prefix taken plain → OwnAnswer becomes_rtcp_receiver_report (λ y. y) plain found
    → rtcp_receiver_report_parsed taken reports_room (result_map rtcp_receiver_report_to_c found) ≡ rtcp_receiver_report_answer reports_room prefix
decided Incomplete plain found taken reports_room is own =
    ap (λ r. rtcp_receiver_report_parsed taken reports_room (result_map rtcp_receiver_report_to_c r))
    (is_error found (Reader EndOfInput)
    (subst (λ x. OwnAnswer becomes_rtcp_receiver_report (λ y. y) x found) is own))
decided (Done n x) plain found taken reports_room is own =
    answered x found taken n reports_room (subst (λ y. OwnAnswer becomes_rtcp_receiver_report (λ z. z) y found) is.0 own) is.1

-- a read that found fields
pub found_is : (prefix : Prefix (Result RtcpReceiverReport ReceiverReportError)) (plain : Result (Result RtcpReceiverReport ReceiverReportError) Error) (found : Result RtcpReceiverReport ReceiverReportError) (taken n : ℕ)
    (value : RtcpReceiverReport) → IsDecided prefix taken plain → OwnAnswer becomes_rtcp_receiver_report (λ y. y) plain found
    → prefix ≡ Done n (Ok (Ok value)) → found ≡ Ok value
found_is prefix plain found taken n value is own done =
    let both = subst (λ p. IsDecided p taken plain) done is in
    subst (λ x. OwnAnswer becomes_rtcp_receiver_report (λ y. y) x found) both.0 own

abbrev ok_of : RtcpReceiverReport → Result RtcpReceiverReport ReceiverReportError
ok_of x = Ok x

value_is : {x y : RtcpReceiverReport} → ok_of x ≡ ok_of y → x ≡ y
value_is is = cc

-- a read whose error a `?` returned
pub stopped : {R : Type 0} {K : BitSource R} {old new : R} {reports_was : List ReportBlockC} {reports_now : List ReportBlockC} {P : ReceiverReportError → Type 0}
    (r : Result RtcpReceiverReportC ReceiverReportError) → IsErrAnd r P → ((s : Result RtcpReceiverReport ReceiverReportError) → IsErrAnd s P → ReadsOwn K becomes_rtcp_receiver_report (rtcp_receiver_report_decoder K.order) old s new)
    → RtcpReceiverReportRead K old reports_was r new reports_now
stopped (Ok c) bad reads = absurd bad
stopped (Err e) is reads = record { found = Err e; reads = reads (Err e) is; told = refl; reports_items = λ value no. cc }

-- a read of all fields
pub read_done : {R : Type 0} {K : BitSource R} {old new : R} {reports_was : List ReportBlockC} {reports_now : List ReportBlockC} {value : RtcpReceiverReport}
    {r : Result RtcpReceiverReportC ReceiverReportError} → ReadsOwn K becomes_rtcp_receiver_report (rtcp_receiver_report_decoder K.order) old (Ok value) new → r ≡ Ok (rtcp_receiver_report_to_c value)
    → reports_now ≡ stored (map report_block_to_c value.reports) reports_was
    → RtcpReceiverReportRead K old reports_was r new reports_now
read_done {reports_was = reports_was} {reports_now = reports_now} {value = value} reads says reports_kept = record {
  found = Ok value;
  reads = reads;
  told = says;
  reports_items = λ v is. subst (λ (x : RtcpReceiverReport). reports_now ≡ stored (map report_block_to_c x.reports) reports_was) (value_is is) reports_kept;
}

-- packed bytes are parsed again
pub packed : (value : RtcpReceiverReport) (bytes : List ℕ) (reports_room : ℕ) → Fits value
    → bits High (take (rtcp_receiver_report_bytes value) bytes) ≡ rtcp_receiver_report_bits value
    → rtcp_receiver_report_answer reports_room ((rtcp_receiver_report_decoder High).reads 0 (bits High bytes))
    ≡ rtcp_receiver_report_parsed (rtcp_receiver_report_bytes value) reports_room (Ok (rtcp_receiver_report_to_c value))
packed value bytes reports_room fits is =
    let all = rtcp_receiver_report_packs High value fits in
    let parts = padded High (rtcp_receiver_report_writes High value) (rtcp_receiver_report_bytes value) bytes _ (told value) is in
    ap (λ b. rtcp_receiver_report_answer reports_room ((rtcp_receiver_report_decoder High).reads 0 b)) parts
    ∙ ap (rtcp_receiver_report_answer reports_room) ((rtcp_receiver_report_goes High value fits).back 0 0 _)
    ∙ ap (λ k. rtcp_receiver_report_answer reports_room (Done k (Ok (Ok value)))) (all.size 0)

-- the fields have no more bits
pub rtcp_receiver_report_most : (value : RtcpReceiverReport) → Fits value → rtcp_receiver_report_size High value ≤ 6016
rtcp_receiver_report_most value fits =
    let reports_most = parts_most (report_block_size High) 192 ReportBlockFits value.reports fits.reports (λ it fit. omega arith) in
    omega (arith, fits, reports_most)
