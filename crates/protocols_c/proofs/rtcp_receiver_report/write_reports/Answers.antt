-- Made by `./format --c` from ../protocols/formats/rtcp_receiver_report.fields: edit that file and make this one anew.
use Rattle.protocols_c.specs.ReportBlock.{report_block_from_c}
use Rattle.protocols.specs.ReportBlock.{report_block_writes}
use Rattle.std.proofs.Common.{refl}
use Rattle.bitstream_io.specs.Callers.{optional_writes}
use Rattle.bitstream_io.proofs.CallerLemmas.{written-begin, written-more, written-stop}
use Rattle.protocols_c.proofs.rtcp_receiver_report.write_reports.Goals as goal

pub loop-item-init : goal.loop-item-init
loop-item-init g c =
    let K = g.W.BitWrite.sink in
    written-begin K (λ item. optional_writes (report_block_writes K.order) (report_block_from_c item)) c.args.items.now _

pub returns-in_err-write_report_block_item : goal.returns-in_err-write_report_block_item
returns-in_err-write_report_block_item g c =
    let K = g.W.BitWrite.sink in
    written-stop K (λ item. optional_writes (report_block_writes K.order) (report_block_from_c item)) c.args.items.now _ _ _ _ _ _ _ _
    c.loop-item-test.true refl c.loop-item.invariant c.in_err-write_report_block_item.ensures c.from_residual.ensures.1

pub loop-item-preserved : goal.loop-item-preserved
loop-item-preserved g c =
    let K = g.W.BitWrite.sink in
    written-more K (λ item. optional_writes (report_block_writes K.order) (report_block_from_c item)) c.args.items.now _ _ _ _ _ _
    c.loop-item-test.true refl c.loop-item.invariant c.in_ok-write_report_block_item.ensures
