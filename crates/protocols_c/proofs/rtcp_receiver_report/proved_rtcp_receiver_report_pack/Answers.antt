-- Made by `./format --c` from ../protocols/formats/rtcp_receiver_report.fields: edit that file and make this one anew.
use Rattle.protocols_c.specs.RtcpReceiverReport.{rtcp_receiver_report_held, rtcp_receiver_report_room, rtcp_receiver_report_of}
use Rattle.protocols_c.specs.Shared.{PacksInto}
use Rattle.protocols.specs.RtcpReceiverReport.{Fits}
use Rattle.std.proofs.Common.{◌∙◌, sym, ap, subst}
use Rattle.std.specs.Prelude.{option_map, IsSomeAnd}
use Rattle.bitstream_io.specs.Callers.{High}
use Rattle.protocols_c.proofs.rtcp_receiver_report.proved_rtcp_receiver_report_pack.Goals as goal

pub returns-in-Some : goal.returns-in-Some
returns-in-Some c =
    let is = sym c.fields.ensures ∙ ap (option_map rtcp_receiver_report_of) c.in-Some.is in
    subst (λ it. PacksInto (IsSomeAnd it Fits) High (rtcp_receiver_report_room it) (rtcp_receiver_report_held it)
    c.args.buffer.now c.put.result c.put.new.buffer) (sym is) c.put.ensures
