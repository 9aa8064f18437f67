-- Made by `./format` from formats/rtcp_receiver_report.fields: edit that file and make this one anew.
use Rattle.protocols.specs.ReportBlock.{report_block_decoder}
use Rattle.bitstream_io.specs.Callers.{list_item}
use Rattle.bitstream_io.specs.Loop.{ItemsRead}
use Rattle.protocols.proofs.rtcp_receiver_report.read_reports.Given as goal

-- the items so far were read
abbrev pub invariant-loop : goal.invariant-loop
invariant-loop g l =
    let K = g.R.BitRead.source in
    ItemsRead K (list_item (report_block_decoder K.order)) l.counter l.initial.reader l.found.items l.reader
