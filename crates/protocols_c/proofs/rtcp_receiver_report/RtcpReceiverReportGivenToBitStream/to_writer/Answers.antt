-- Made by `./format --c` from ../protocols/formats/rtcp_receiver_report.fields: edit that file and make this one anew.
use Rattle.bitstream_io.proofs.CallerLemmas.{plainly_written}
use Rattle.protocols_c.proofs.rtcp_receiver_report.RtcpReceiverReportGivenToBitStream.to_writer.Goals as goal

pub returns : goal.returns
returns g c = record { writes = plainly_written _ _ _ _ _ c.write.ensures }
