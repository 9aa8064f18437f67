-- Made by `./format --c` from ../protocols/formats/rtcp_receiver_report.fields: edit that file and make this one anew.
use Rattle.protocols_c.specs.RtcpReceiverReport.{rtcp_receiver_report_of}
use Rattle.protocols.specs.RtcpReceiverReport.{rtcp_receiver_report_writes}
use Rattle.protocols_c.proofs.RtcpReceiverReportLemmas.{rtcp_receiver_report_most}
use Rattle.protocols.proofs.RtcpReceiverReportLemmas.{rtcp_receiver_report_packs}
use Rattle.protocols_c.proofs.VariedLemmas.{counted_past}
use Rattle.std.proofs.Common.{◌∙◌, refl, arith}
use Rattle.bitstream_io.proofs.SequenceLemmas.{counted}
use Rattle.bitstream_io.specs.Callers.{High}
use Rattle.protocols_c.proofs.rtcp_receiver_report.size.Goals as goal

pub returns : goal.returns
returns c =
    let all = rtcp_receiver_report_packs High (rtcp_receiver_report_of c.args.fields.now) c.requires in
    c.into_written.ensures ∙ counted _ (rtcp_receiver_report_writes High (rtcp_receiver_report_of c.args.fields.now)) _ _ refl c.new-counter.ensures c.in-Ok.ensures ∙ all.size 0

pub unreachable-requires : goal.unreachable-requires
unreachable-requires c =
    let all = rtcp_receiver_report_packs High (rtcp_receiver_report_of c.args.fields.now) c.requires in
    let size = all.size 0 in
    let most = rtcp_receiver_report_most (rtcp_receiver_report_of c.args.fields.now) c.requires in
    let more = counted_past _ 18446744073709551615 refl (λ x may. may) (rtcp_receiver_report_writes High (rtcp_receiver_report_of c.args.fields.now)) _ _ _ c.new-counter.ensures
    refl (all.accepted 0) c.in-Err.ensures in
    omega (arith, more, size, most)
