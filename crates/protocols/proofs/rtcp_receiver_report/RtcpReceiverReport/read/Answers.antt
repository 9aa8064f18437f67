-- Made by `./format` from formats/rtcp_receiver_report.fields: edit that file and make this one anew.
use Rattle.std.proofs.Common.{refl}
use Rattle.bitstream_io.proofs.CallerLemmas.{next_grown_const, exit_grown_const}
use Rattle.bitstream_io.proofs.GrowsLemmas.{go_grown, stop_grown, grown, grown_end}
use Rattle.protocols.proofs.rtcp_receiver_report.RtcpReceiverReport.read.Goals as goal

pub returns-in_err-read_const : goal.returns-in_err-read_const
returns-in_err-read_const g c = exit_grown_const _ _ c.from_residual.ensures.1 c.in_err-read_const.ensures.reads refl

pub returns-in_err-padding : goal.returns-in_err-padding
returns-in_err-padding g c = next_grown_const _ _ c.in_ok-read_const.ensures.reads (stop_grown _ (grown
    c.in_err-padding.ensures.reads) c.from_residual-in_err-padding.ensures.1)

pub returns-in_err-reports_count : goal.returns-in_err-reports_count
returns-in_err-reports_count g c = next_grown_const _ _ c.in_ok-read_const.ensures.reads (go_grown _ (grown
    c.in_ok-padding.ensures.reads) (stop_grown _ (grown c.in_err-reports_count.ensures.reads)
    c.from_residual-in_err-reports_count.ensures.1))

pub returns-in_err-read_const-2 : goal.returns-in_err-read_const-2
returns-in_err-read_const-2 g c = next_grown_const _ _ c.in_ok-read_const.ensures.reads (go_grown _ (grown
    c.in_ok-padding.ensures.reads) (go_grown _ (grown c.in_ok-reports_count.ensures.reads) (exit_grown_const _ _
    c.from_residual-in_err-read_const-2.ensures.1 c.in_err-read_const-2.ensures.reads refl)))

pub returns-in_err-length : goal.returns-in_err-length
returns-in_err-length g c = next_grown_const _ _ c.in_ok-read_const.ensures.reads (go_grown _ (grown
    c.in_ok-padding.ensures.reads) (go_grown _ (grown c.in_ok-reports_count.ensures.reads) (next_grown_const _ _
    c.in_ok-read_const-2.ensures.reads (stop_grown _ (grown c.in_err-length.ensures.reads)
    c.from_residual-in_err-length.ensures.1))))

pub returns-in_err-ssrc : goal.returns-in_err-ssrc
returns-in_err-ssrc g c = next_grown_const _ _ c.in_ok-read_const.ensures.reads (go_grown _ (grown
    c.in_ok-padding.ensures.reads) (go_grown _ (grown c.in_ok-reports_count.ensures.reads) (next_grown_const _ _
    c.in_ok-read_const-2.ensures.reads (go_grown _ (grown c.in_ok-length.ensures.reads) (stop_grown _ (grown
    c.in_err-ssrc.ensures.reads) c.from_residual-in_err-ssrc.ensures.1)))))

pub returns-in_err-reports : goal.returns-in_err-reports
returns-in_err-reports g c = next_grown_const _ _ c.in_ok-read_const.ensures.reads (go_grown _ (grown
    c.in_ok-padding.ensures.reads) (go_grown _ (grown c.in_ok-reports_count.ensures.reads) (next_grown_const _ _
    c.in_ok-read_const-2.ensures.reads (go_grown _ (grown c.in_ok-length.ensures.reads) (go_grown _ (grown
    c.in_ok-ssrc.ensures.reads) (stop_grown _ c.in_err-reports.ensures c.from_residual-in_err-reports.ensures.1))))))

pub returns : goal.returns
returns g c = next_grown_const _ _ c.in_ok-read_const.ensures.reads (go_grown _ (grown c.in_ok-padding.ensures.reads)
    (go_grown _ (grown c.in_ok-reports_count.ensures.reads) (next_grown_const _ _ c.in_ok-read_const-2.ensures.reads
    (go_grown _ (grown c.in_ok-length.ensures.reads) (go_grown _ (grown c.in_ok-ssrc.ensures.reads) (go_grown _
    c.in_ok-reports.ensures (grown_end _ _)))))))
