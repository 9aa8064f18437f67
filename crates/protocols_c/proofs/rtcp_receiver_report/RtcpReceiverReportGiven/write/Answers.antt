-- Made by `./format --c` from ../protocols/formats/rtcp_receiver_report.fields: edit that file and make this one anew.
use Rattle.protocols_c.proofs.PartLemmas.{made_written}
use Rattle.protocols_c.specs.ReportBlock.{report_block_from_c}
use Rattle.protocols.specs.ReportBlock.{report_block_writes}
use Rattle.bitstream_io.proofs.OwnLemmas.{is_error}
use Rattle.bitstream_io.proofs.WriteParts.{all_append, all_none, all_stop}
use Rattle.bitstream_io.proofs.WriteSteps.{next_call, next_write, stop_call, stop_write}
use Rattle.protocols_c.proofs.rtcp_receiver_report.RtcpReceiverReportGiven.write.Goals as goal

pub returns-in_err-write_const : goal.returns-in_err-write_const
returns-in_err-write_const g c = stop_call _ _ _ _ _ _ _ c.from_residual.ensures.1 c.in_err-write_const.ensures.writes

pub returns-in_err-write_bit : goal.returns-in_err-write_bit
returns-in_err-write_bit g c = next_call _ _ _ _ _ _ _ c.in_ok-write_const.ensures.writes (stop_call _ _ _ _ _ _ _
    c.from_residual-in_err-write_bit.ensures.1 c.in_err-write_bit.ensures.writes)

pub returns-in_err-write : goal.returns-in_err-write
returns-in_err-write g c = next_call _ _ _ _ _ _ _ c.in_ok-write_const.ensures.writes (next_call _ _ _ _ _ _ _
    c.in_ok-write_bit.ensures.writes (stop_write _ _ _ _ _ _ _ c.from_residual-in_err-write.ensures.1 (rw
    c.count_report_block.ensures at c.in_err-write.ensures.writes)))

pub returns-in_err-write_const-2 : goal.returns-in_err-write_const-2
returns-in_err-write_const-2 g c = next_call _ _ _ _ _ _ _ c.in_ok-write_const.ensures.writes (next_call _ _ _ _ _ _ _
    c.in_ok-write_bit.ensures.writes (next_write _ _ _ _ _ _ _ (rw c.count_report_block.ensures at
    c.in_ok-write.ensures.writes) (stop_call _ _ _ _ _ _ _ c.from_residual-in_err-write_const-2.ensures.1
    c.in_err-write_const-2.ensures.writes)))

pub returns-in_err-write-2 : goal.returns-in_err-write-2
returns-in_err-write-2 g c = next_call _ _ _ _ _ _ _ c.in_ok-write_const.ensures.writes (next_call _ _ _ _ _ _ _
    c.in_ok-write_bit.ensures.writes (next_write _ _ _ _ _ _ _ (rw c.count_report_block.ensures at
    c.in_ok-write.ensures.writes) (next_call _ _ _ _ _ _ _ c.in_ok-write_const-2.ensures.writes (stop_write _ _ _ _ _ _
    _ c.from_residual-in_err-write-2.ensures.1 c.in_err-write-2.ensures.writes))))

pub returns-in_err-write-3 : goal.returns-in_err-write-3
returns-in_err-write-3 g c = next_call _ _ _ _ _ _ _ c.in_ok-write_const.ensures.writes (next_call _ _ _ _ _ _ _
    c.in_ok-write_bit.ensures.writes (next_write _ _ _ _ _ _ _ (rw c.count_report_block.ensures at
    c.in_ok-write.ensures.writes) (next_call _ _ _ _ _ _ _ c.in_ok-write_const-2.ensures.writes (next_write _ _ _ _ _ _
    _ c.in_ok-write-2.ensures.writes (stop_write _ _ _ _ _ _ _ c.from_residual-in_err-write-3.ensures.1
    c.in_err-write-3.ensures.writes)))))

pub returns-in_err-write_reports : goal.returns-in_err-write_reports
returns-in_err-write_reports g c = next_call _ _ _ _ _ _ _ c.in_ok-write_const.ensures.writes (next_call _ _ _ _ _ _ _
    c.in_ok-write_bit.ensures.writes (next_write _ _ _ _ _ _ _ (rw c.count_report_block.ensures at
    c.in_ok-write.ensures.writes) (next_call _ _ _ _ _ _ _ c.in_ok-write_const-2.ensures.writes (next_write _ _ _ _ _ _
    _ c.in_ok-write-2.ensures.writes (next_write _ _ _ _ _ _ _ c.in_ok-write-3.ensures.writes (all_stop _ _ _ _ _ _ _
    (is_error _ _ c.from_residual-in_err-write_reports.ensures.1) (rw (made_written report_block_from_c
    (report_block_writes g.W.BitWrite.sink.order) _) at c.in_err-write_reports.ensures)))))))

pub returns : goal.returns
returns g c = next_call _ _ _ _ _ _ _ c.in_ok-write_const.ensures.writes (next_call _ _ _ _ _ _ _
    c.in_ok-write_bit.ensures.writes (next_write _ _ _ _ _ _ _ (rw c.count_report_block.ensures at
    c.in_ok-write.ensures.writes) (next_call _ _ _ _ _ _ _ c.in_ok-write_const-2.ensures.writes (next_write _ _ _ _ _ _
    _ c.in_ok-write-2.ensures.writes (next_write _ _ _ _ _ _ _ c.in_ok-write-3.ensures.writes (all_append _ _ _ _ _ _ _
    (rw (made_written report_block_from_c (report_block_writes g.W.BitWrite.sink.order) _) at
    c.in_ok-write_reports.ensures) (all_none _ _)))))))
