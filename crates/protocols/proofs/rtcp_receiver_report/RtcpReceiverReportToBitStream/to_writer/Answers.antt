-- Made by `./format` from formats/rtcp_receiver_report.fields: edit that file and make this one anew.
use Rattle.bitstream_io.proofs.CallerLemmas.{plainly_written}
use Rattle.protocols.proofs.rtcp_receiver_report.RtcpReceiverReportToBitStream.to_writer.Goals as goal

pub returns : goal.returns
returns g c = record { writes = plainly_written _ _ _ _ _ c.write.ensures }
