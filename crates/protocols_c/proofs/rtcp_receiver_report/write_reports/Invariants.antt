-- Made by `./format --c` from ../protocols/formats/rtcp_receiver_report.fields: edit that file and make this one anew.
use Rattle.protocols_c.specs.ReportBlock.{report_block_from_c}
use Rattle.protocols.specs.ReportBlock.{report_block_writes}
use Rattle.bitstream_io.specs.Callers.{optional_writes}
use Rattle.bitstream_io.specs.Loop.{ItemsWritten}
use Rattle.protocols_c.proofs.rtcp_receiver_report.write_reports.Given as goal

-- the items so far were written
abbrev pub invariant-loop-item : goal.invariant-loop-item
invariant-loop-item g l =
    let K = g.W.BitWrite.sink in
    ItemsWritten K (λ item. optional_writes (report_block_writes K.order) (report_block_from_c item)) l.items l.item-index
    l.initial.writer l.writer
