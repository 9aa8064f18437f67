-- Made by `./format` from formats/rtcp_receiver_report.fields: edit that file and make this one anew.
use Rattle.protocols.proofs.rtcp_receiver_report.RtcpReceiverReportFromBitStreamUsing.from_reader.Goals as goal

pub returns : goal.returns
returns g c = record { reads = c.read.ensures }
