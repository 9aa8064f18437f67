-- Made by `./format --c` from ../protocols/formats/rtcp_receiver_report.fields: edit that file and make this one anew.
use Rattle.protocols_c.specs.RtcpReceiverReport.{rtcp_receiver_report_parsed}
use Rattle.protocols_c.proofs.RtcpReceiverReportLemmas.{decided, found_is, packed}
use Rattle.protocols_c.proofs.VariedLemmas.{read_decided}
use Rattle.std.proofs.Common.{◌≡◌, ◌∙◌, ◌-◌, length, ap, arith}
use Rattle.bitstream_io.proofs.CallerLemmas.{slice_ends}
use Rattle.protocols_c.proofs.rtcp_receiver_report.proved_rtcp_receiver_report_parse.Goals as goal

pub returns-clause-answer : goal.returns-clause-answer
returns-clause-answer c =
    let count : c.saturating_sub-taken.result ≡ length c.args.bytes.now - length c.rest.result.now =
    omega (arith, c.saturating_sub-taken.ensures) in
    c.parsed.ensures ∙ ap (rtcp_receiver_report_parsed _ _) c.read-answer.ensures.told
    ∙ decided _ c.read-answer.ensures.reads.plain _ _ _ (read_decided slice_ends c.over-reader.ensures.state c.rest.ensures count c.read-answer.ensures.reads.called)
    c.read-answer.ensures.reads.answer

pub returns-clause-reports_items : goal.returns-clause-reports_items
returns-clause-reports_items c = λ n value is.
    let count : c.saturating_sub-taken.result ≡ length c.args.bytes.now - length c.rest.result.now =
    omega (arith, c.saturating_sub-taken.ensures) in
    c.read-answer.ensures.reports_items value
    (found_is _ c.read-answer.ensures.reads.plain _ _ n value (read_decided slice_ends c.over-reader.ensures.state c.rest.ensures count c.read-answer.ensures.reads.called) c.read-answer.ensures.reads.answer is)

pub returns-clause-round_trip : goal.returns-clause-round_trip
returns-clause-round_trip c = λ value fits is.
    let count : c.saturating_sub-taken.result ≡ length c.args.bytes.now - length c.rest.result.now =
    omega (arith, c.saturating_sub-taken.ensures) in
    c.parsed.ensures ∙ ap (rtcp_receiver_report_parsed _ _) c.read-answer.ensures.told
    ∙ decided _ c.read-answer.ensures.reads.plain _ _ _ (read_decided slice_ends c.over-reader.ensures.state c.rest.ensures count c.read-answer.ensures.reads.called)
    c.read-answer.ensures.reads.answer
    ∙ packed value c.args.bytes.now (length c.args.reports_items.now) fits is
