-- Made by `./format` from formats/rtcp_receiver_report.fields: edit that file and make this one anew.
use Rattle.protocols.proofs.RtcpReceiverReportLemmas.{rtcp_receiver_report_goes, rtcp_receiver_report_packs}
use Rattle.protocols.proofs.rtcp_receiver_report.rtcp_receiver_report_round_trip.Goals as goal

pub returns-clause-back : goal.returns-clause-back
returns-clause-back c = λ o value at from more fits. (rtcp_receiver_report_goes o value fits).back at from more

pub returns-clause-size : goal.returns-clause-size
returns-clause-size c = λ o value at fits. (rtcp_receiver_report_packs o value fits).size at
