-- Made by `./format --c` from ../protocols/formats/rtcp_receiver_report.fields: edit that file and make this one anew.
use Rattle.protocols_c.specs.ReportBlock.{report_block_from_c}
use Rattle.protocols.specs.ReportBlock.{Fits as ReportBlockFits}
use Rattle.protocols_c.proofs.PartLemmas.{item_fit, item_free}
use Rattle.std.proofs.Common.{◌∙◌, sym}
use Rattle.protocols_c.proofs.rtcp_receiver_report.report_block_item_fits.Goals as goal

pub returns-in-Some : goal.returns-in-Some
returns-in-Some c = item_fit report_block_from_c ReportBlockFits c.args.item.now _ _ (sym c.fields.ensures ∙ c.in-Some.is) c.is_fit.ensures

pub returns-in-None : goal.returns-in-None
returns-in-None c = item_free report_block_from_c ReportBlockFits c.args.item.now (sym c.fields.ensures ∙ c.in-None.is)
