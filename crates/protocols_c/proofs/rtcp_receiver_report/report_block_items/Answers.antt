-- Made by `./format --c` from ../protocols/formats/rtcp_receiver_report.fields: edit that file and make this one anew.
use Rattle.protocols_c.specs.ReportBlock.{report_block_from_c}
use Rattle.protocols_c.proofs.PartLemmas.{made_all, made_none}
use Rattle.std.proofs.Common.{sym}
use Rattle.protocols_c.proofs.rtcp_receiver_report.report_block_items.Goals as goal

pub returns-then-are_report_block : goal.returns-then-are_report_block
returns-then-are_report_block c = sym (made_all report_block_from_c _ (c.are_report_block.ensures.0 c.if-are_report_block.true))

pub returns : goal.returns
returns c = sym (made_none report_block_from_c _ (λ all. let yes = c.are_report_block.ensures.1 all in let other = c.if-are_report_block.false in cc))
