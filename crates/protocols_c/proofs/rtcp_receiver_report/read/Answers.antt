-- Made by `./format --c` from ../protocols/formats/rtcp_receiver_report.fields: edit that file and make this one anew.
use Rattle.protocols_c.proofs.RtcpReceiverReportLemmas.{read_done, stopped}
use Rattle.std.proofs.Common.{rules}
use Rattle.std.proofs.Common.{refl}
use Rattle.bitstream_io.proofs.CallerLemmas.{next_own_read as next, next_own_const as next_const, exit_own_read as exit, exit_own_const as exit_const}
use Rattle.bitstream_io.proofs.OwnSteps.{own_end}
use Rattle.protocols_c.proofs.rtcp_receiver_report.read.Goals as goal

pub returns-in_err-read_const : goal.returns-in_err-read_const
returns-in_err-read_const g c = stopped _ c.from_residual.ensures.1 (λ s residual. exit_const _ _ residual
    c.in_err-read_const.ensures.reads refl)

pub returns-in_err-padding : goal.returns-in_err-padding
returns-in_err-padding g c = stopped _ c.from_residual-in_err-padding.ensures.1 (λ s residual. next_const _ _
    c.in_ok-read_const.ensures.reads (exit _ residual c.in_err-padding.ensures.reads))

pub returns-in_err-reports_count : goal.returns-in_err-reports_count
returns-in_err-reports_count g c = stopped _ c.from_residual-in_err-reports_count.ensures.1 (λ s residual. next_const _
    _ c.in_ok-read_const.ensures.reads (next _ c.in_ok-padding.ensures.reads (exit _ residual
    c.in_err-reports_count.ensures.reads)))

pub returns-in_err-read_const-2 : goal.returns-in_err-read_const-2
returns-in_err-read_const-2 g c = stopped _ c.from_residual-in_err-read_const-2.ensures.1 (λ s residual. next_const _ _
    c.in_ok-read_const.ensures.reads (next _ c.in_ok-padding.ensures.reads (next _ c.in_ok-reports_count.ensures.reads
    (exit_const _ _ residual c.in_err-read_const-2.ensures.reads refl))))

pub returns-in_err-length : goal.returns-in_err-length
returns-in_err-length g c = stopped _ c.from_residual-in_err-length.ensures.1 (λ s residual. next_const _ _
    c.in_ok-read_const.ensures.reads (next _ c.in_ok-padding.ensures.reads (next _ c.in_ok-reports_count.ensures.reads
    (next_const _ _ c.in_ok-read_const-2.ensures.reads (exit _ residual c.in_err-length.ensures.reads)))))

pub returns-in_err-ssrc : goal.returns-in_err-ssrc
returns-in_err-ssrc g c = stopped _ c.from_residual-in_err-ssrc.ensures.1 (λ s residual. next_const _ _
    c.in_ok-read_const.ensures.reads (next _ c.in_ok-padding.ensures.reads (next _ c.in_ok-reports_count.ensures.reads
    (next_const _ _ c.in_ok-read_const-2.ensures.reads (next _ c.in_ok-length.ensures.reads (exit _ residual
    c.in_err-ssrc.ensures.reads))))))

pub returns-in_err-read_reports : goal.returns-in_err-read_reports
returns-in_err-read_reports g c = stopped _ c.from_residual-in_err-read_reports.ensures.1 (λ s residual. next_const _ _
    c.in_ok-read_const.ensures.reads (next _ c.in_ok-padding.ensures.reads (next _ c.in_ok-reports_count.ensures.reads
    (next_const _ _ c.in_ok-read_const-2.ensures.reads (next _ c.in_ok-length.ensures.reads (next _
    c.in_ok-ssrc.ensures.reads (exit _ residual c.in_err-read_reports.ensures.reads)))))))

pub returns : goal.returns
returns g c = read_done (next_const _ _ c.in_ok-read_const.ensures.reads (next _ c.in_ok-padding.ensures.reads (next _
    c.in_ok-reports_count.ensures.reads (next_const _ _ c.in_ok-read_const-2.ensures.reads (next _
    c.in_ok-length.ensures.reads (next _ c.in_ok-ssrc.ensures.reads (next _ c.in_ok-read_reports.ensures.reads (own_end
    _ _)))))))) (search rules) c.in_ok-read_reports.ensures.keeps
