-- Made by `./format` from formats/rtcp_sender_report.fields: edit that file and make this one anew.
use Rattle.std.proofs.Common.{refl}
use Rattle.bitstream_io.proofs.CallerLemmas.{next_own_read as next, next_own_const as next_const, exit_own_read as exit, exit_own_const as exit_const}
use Rattle.bitstream_io.proofs.OwnSteps.{own_end}
use Rattle.protocols.proofs.rtcp_sender_report.RtcpSenderReport.read.Goals as goal

pub returns-in_err-read_const : goal.returns-in_err-read_const
returns-in_err-read_const g c = exit_const _ _ c.from_residual.ensures.1 c.in_err-read_const.ensures.reads refl

pub returns-in_err-padding : goal.returns-in_err-padding
returns-in_err-padding g c = next_const _ _ c.in_ok-read_const.ensures.reads (exit _
    c.from_residual-in_err-padding.ensures.1 c.in_err-padding.ensures.reads)

pub returns-in_err-reports : goal.returns-in_err-reports
returns-in_err-reports g c = next_const _ _ c.in_ok-read_const.ensures.reads (next _ c.in_ok-padding.ensures.reads (exit
    _ c.from_residual-in_err-reports.ensures.1 c.in_err-reports.ensures.reads))

pub returns-in_err-read_const-2 : goal.returns-in_err-read_const-2
returns-in_err-read_const-2 g c = next_const _ _ c.in_ok-read_const.ensures.reads (next _ c.in_ok-padding.ensures.reads
    (next _ c.in_ok-reports.ensures.reads (exit_const _ _ c.from_residual-in_err-read_const-2.ensures.1
    c.in_err-read_const-2.ensures.reads refl)))

pub returns-in_err-length : goal.returns-in_err-length
returns-in_err-length g c = next_const _ _ c.in_ok-read_const.ensures.reads (next _ c.in_ok-padding.ensures.reads (next
    _ c.in_ok-reports.ensures.reads (next_const _ _ c.in_ok-read_const-2.ensures.reads (exit _
    c.from_residual-in_err-length.ensures.1 c.in_err-length.ensures.reads))))

pub returns-in_err-ssrc : goal.returns-in_err-ssrc
returns-in_err-ssrc g c = next_const _ _ c.in_ok-read_const.ensures.reads (next _ c.in_ok-padding.ensures.reads (next _
    c.in_ok-reports.ensures.reads (next_const _ _ c.in_ok-read_const-2.ensures.reads (next _
    c.in_ok-length.ensures.reads (exit _ c.from_residual-in_err-ssrc.ensures.1 c.in_err-ssrc.ensures.reads)))))

pub returns-in_err-sent : goal.returns-in_err-sent
returns-in_err-sent g c = next_const _ _ c.in_ok-read_const.ensures.reads (next _ c.in_ok-padding.ensures.reads (next _
    c.in_ok-reports.ensures.reads (next_const _ _ c.in_ok-read_const-2.ensures.reads (next _
    c.in_ok-length.ensures.reads (next _ c.in_ok-ssrc.ensures.reads (exit _ c.from_residual-in_err-sent.ensures.1
    c.in_err-sent.ensures))))))

pub returns-in_err-timestamp : goal.returns-in_err-timestamp
returns-in_err-timestamp g c = next_const _ _ c.in_ok-read_const.ensures.reads (next _ c.in_ok-padding.ensures.reads
    (next _ c.in_ok-reports.ensures.reads (next_const _ _ c.in_ok-read_const-2.ensures.reads (next _
    c.in_ok-length.ensures.reads (next _ c.in_ok-ssrc.ensures.reads (next _ c.in_ok-sent.ensures (exit _
    c.from_residual-in_err-timestamp.ensures.1 c.in_err-timestamp.ensures.reads)))))))

pub returns-in_err-packets : goal.returns-in_err-packets
returns-in_err-packets g c = next_const _ _ c.in_ok-read_const.ensures.reads (next _ c.in_ok-padding.ensures.reads (next
    _ c.in_ok-reports.ensures.reads (next_const _ _ c.in_ok-read_const-2.ensures.reads (next _
    c.in_ok-length.ensures.reads (next _ c.in_ok-ssrc.ensures.reads (next _ c.in_ok-sent.ensures (next _
    c.in_ok-timestamp.ensures.reads (exit _ c.from_residual-in_err-packets.ensures.1
    c.in_err-packets.ensures.reads))))))))

pub returns-in_err-octets : goal.returns-in_err-octets
returns-in_err-octets g c = next_const _ _ c.in_ok-read_const.ensures.reads (next _ c.in_ok-padding.ensures.reads (next
    _ c.in_ok-reports.ensures.reads (next_const _ _ c.in_ok-read_const-2.ensures.reads (next _
    c.in_ok-length.ensures.reads (next _ c.in_ok-ssrc.ensures.reads (next _ c.in_ok-sent.ensures (next _
    c.in_ok-timestamp.ensures.reads (next _ c.in_ok-packets.ensures.reads (exit _
    c.from_residual-in_err-octets.ensures.1 c.in_err-octets.ensures.reads)))))))))

pub returns : goal.returns
returns g c = next_const _ _ c.in_ok-read_const.ensures.reads (next _ c.in_ok-padding.ensures.reads (next _
    c.in_ok-reports.ensures.reads (next_const _ _ c.in_ok-read_const-2.ensures.reads (next _
    c.in_ok-length.ensures.reads (next _ c.in_ok-ssrc.ensures.reads (next _ c.in_ok-sent.ensures (next _
    c.in_ok-timestamp.ensures.reads (next _ c.in_ok-packets.ensures.reads (next _ c.in_ok-octets.ensures.reads (own_end
    _ _))))))))))
