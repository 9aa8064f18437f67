-- Made by `./format --c` from ../protocols/formats/rtcp_receiver_report.fields: edit that file and make this one anew.
use Rattle.protocols_c.specs.ReportBlock.{report_block_from_c}
use Rattle.protocols.specs.ReportBlock.{Fits as ReportBlockFits}
use Rattle.protocols_c.proofs.PartLemmas.{made_fit}
use Rattle.protocols_c.proofs.rtcp_receiver_report.all_report_block_fit.Goals as goal

pub returns : goal.returns
returns c =
    let same = made_fit report_block_from_c ReportBlockFits c.args.items.now in
    (λ yes. same.0 (c.report_block_items_fit.ensures.0 yes), λ all. c.report_block_items_fit.ensures.1 (same.1 all))
