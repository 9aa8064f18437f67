-- Made by `./format` from formats/rtcp_receiver_report.fields: edit that file and make this one anew.
use Rattle.protocols.specs.ReportBlock.{report_block_writes}
use Rattle.bitstream_io.specs.Loop.{ItemsWritten}
use Rattle.protocols.proofs.rtcp_receiver_report.write_reports.Given as goal

-- the items so far were written
abbrev pub invariant-loop-item : goal.invariant-loop-item
invariant-loop-item g l =
    let K = g.W.BitWrite.sink in
    ItemsWritten K (report_block_writes K.order) l.items l.item-index l.initial.writer l.writer
