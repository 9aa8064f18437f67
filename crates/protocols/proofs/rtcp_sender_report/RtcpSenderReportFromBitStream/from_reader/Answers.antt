-- Made by `./format` from formats/rtcp_sender_report.fields: edit that file and make this one anew.
use Rattle.protocols.proofs.rtcp_sender_report.RtcpSenderReportFromBitStream.from_reader.Goals as goal

pub returns : goal.returns
returns g c = record { reads = c.read.ensures }
