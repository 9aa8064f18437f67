-- The value of a `RtcpReceiverReport` in contracts.
use Rattle.protocols.specs.declared.report_block.ReportBlock.{ReportBlock}
use Rattle.std.specs.Prelude.{ℕ, Bool, List}

-- Made by `./format` from formats/rtcp_receiver_report.fields: edit that file and make this one anew.

-- the fields, and the items of the lists
pub record RtcpReceiverReportFields : Type 0 where
  pub padding : Bool
  pub length : ℕ
  pub ssrc : ℕ
  pub reports : List ReportBlock
