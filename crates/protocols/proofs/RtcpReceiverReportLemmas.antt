-- Made by `./format` from formats/rtcp_receiver_report.fields: edit that file and make this one anew.
-- A written `RtcpReceiverReport` is read back, and its number of bits.
use Rattle.protocols.specs.RtcpReceiverReport.{rtcp_receiver_report_decoder, rtcp_receiver_report_writes, rtcp_receiver_report_size, rtcp_receiver_report_format, rtcp_receiver_report_bits, Fits}
use Rattle.protocols.specs.declared.rtcp_receiver_report.RtcpReceiverReport.{RtcpReceiverReport}
use Rattle.std.proofs.Common.{◌≡◌, ◌++◌, ◌∷◌, [], Ok, refl}
use Rattle.bitstream_io.proofs.CallerLemmas.{RoundTrip, Packs}
use Rattle.bitstream_io.specs.Callers.{Order, High, align, write_sequence}

-- a written value is read back
pub rtcp_receiver_report_goes : (o : Order) (value : RtcpReceiverReport) → Fits value
    → RoundTrip (rtcp_receiver_report_decoder o) (rtcp_receiver_report_writes o value) (Ok value)
rtcp_receiver_report_goes = rtcp_receiver_report_format.round_trip

-- each write is accepted, and the value's size is the number of bits written
pub rtcp_receiver_report_packs : (o : Order) (value : RtcpReceiverReport) → Fits value
    → Packs (rtcp_receiver_report_writes o value) (rtcp_receiver_report_size o value)
rtcp_receiver_report_packs = rtcp_receiver_report_format.packs

-- the bits, of which a search is to see no part
pub told : (value : RtcpReceiverReport)
    → write_sequence (rtcp_receiver_report_writes High value ++ align ∷ []) 0 ≡ rtcp_receiver_report_bits value
unfolding rtcp_receiver_report_bits
told value = refl
