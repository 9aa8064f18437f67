-- Made by `./format --c` from ../protocols/formats/rtcp_receiver_report.fields: edit that file and make this one anew.
use Rattle.protocols.specs.ReportBlock.{report_block_writes}
use Rattle.protocols_c.proofs.PartLemmas.{none_written, some_written}
use Rattle.std.proofs.Common.{◌∙◌, sym}
use Rattle.protocols_c.proofs.rtcp_receiver_report.write_report_block_item.Goals as goal

pub returns-in-Some : goal.returns-in-Some
returns-in-Some g c = some_written g.W.BitWrite.sink (report_block_writes g.W.BitWrite.sink.order) _ _ _ _ _ (sym c.fields.ensures ∙ c.in-Some.is) c.write.ensures

pub returns-in-None : goal.returns-in-None
returns-in-None g c = none_written g.W.BitWrite.sink (report_block_writes g.W.BitWrite.sink.order) _ c.args.writer.now (sym c.fields.ensures ∙ c.in-None.is)
