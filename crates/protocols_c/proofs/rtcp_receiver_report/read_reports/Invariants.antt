-- Made by `./format --c` from ../protocols/formats/rtcp_receiver_report.fields: edit that file and make this one anew.
use Rattle.protocols_c.specs.Parts.{PartsKept}
use Rattle.protocols_c.specs.ReportBlock.{report_block_to_c}
use Rattle.protocols.specs.ReportBlock.{report_block_decoder}
use Rattle.std.proofs.Common.{Ok}
use Rattle.bitstream_io.specs.Callers.{Reads, items_decoder, list_item}
use Rattle.protocols_c.proofs.rtcp_receiver_report.read_reports.Given as goal

-- the items so far were read and kept
abbrev pub invariant-loop-place : goal.invariant-loop-place
invariant-loop-place g l =
    let K = g.R.BitRead.source in
    PartsKept (λ all. Reads K (items_decoder (list_item (report_block_decoder K.order)) l.place) l.fn.reader (Ok all) l.reader) report_block_to_c l.place
    l.initial.items l.items
