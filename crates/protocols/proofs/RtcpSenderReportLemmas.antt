-- Made by `./format` from formats/rtcp_sender_report.fields: edit that file and make this one anew.
-- A written `RtcpSenderReport` is read back, and its number of bits.
use Rattle.protocols.specs.RtcpSenderReport.{rtcp_sender_report_decoder, rtcp_sender_report_writes, rtcp_sender_report_size, rtcp_sender_report_format, rtcp_sender_report_bits, Fits}
use Rattle.protocols.specs.declared.rtcp_sender_report.RtcpSenderReport.{RtcpSenderReport}
use Rattle.std.proofs.Common.{◌≡◌, ◌++◌, ◌∷◌, [], ℕ, Ok, refl}
use Rattle.bitstream_io.proofs.CallerLemmas.{RoundTrip, Packs}
use Rattle.bitstream_io.specs.Callers.{Order, High, align, write_sequence, AllAccepted}

-- a written value is read back
pub rtcp_sender_report_goes : (o : Order) (value : RtcpSenderReport) → Fits value
    → RoundTrip (rtcp_sender_report_decoder o) (rtcp_sender_report_writes o value) (Ok value)
rtcp_sender_report_goes = rtcp_sender_report_format.round_trip

-- each write is accepted, and the value's size is the number of bits written
pub rtcp_sender_report_packs : (o : Order) (value : RtcpSenderReport) → Fits value
    → Packs (rtcp_sender_report_writes o value) (rtcp_sender_report_size o value)
rtcp_sender_report_packs = rtcp_sender_report_format.packs

-- each field fits if each write is accepted
pub rtcp_sender_report_fits : (o : Order) (value : RtcpSenderReport) (at : ℕ) → AllAccepted (rtcp_sender_report_writes o
    value) at → Fits value
rtcp_sender_report_fits o value at = rtcp_sender_report_format.accepted o value at tt

-- the bits, of which a search is to see no part
pub told : (value : RtcpSenderReport)
    → write_sequence (rtcp_sender_report_writes High value ++ align ∷ []) 0 ≡ rtcp_sender_report_bits value
unfolding rtcp_sender_report_bits
told value = refl
