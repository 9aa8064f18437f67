-- A receiver report of RTCP, with its report blocks (RFC 3550, section 6.4.2).
use Rattle.protocols.specs.declared.rtcp_receiver_report.RtcpReceiverReport.{RtcpReceiverReport}
use Rattle.protocols.specs.declared.rtcp_receiver_report.ReceiverReportError.{ReceiverReportError}
use Rattle.protocols.specs.declared.rtcp_receiver_report.ReceiverReportError.TheVariants.{Reader, OtherVersion, OtherPacket}
use Rattle.protocols.specs.ReportBlock.{report_block_format, Fits as ReportBlockFits}
use Rattle.std.proofs.Common.{refl}
use Rattle.bitstream_format.specs.Format.{◌>>=◌, Own as OwnFormat, Parts as FormatParts, format, named, field, const, ◌&◌, own_done}
use Rattle.bitstream_format.specs.Lists.{list}
use Rattle.std.specs.Prelude.{◌≡◌, ◌^◌, ◌<◌, ◌++◌, ◌∷◌, [], ℕ, Bool, List, Result, Ok, length}
use Rattle.std.specs.List.{All}
use Rattle.bitstream_io.specs.Callers.{Decoder, Encoder, Error, Order, High, align, write_sequence}
use Rattle.bitstream_format.specs.Atoms as atom

-- Made by `./format` from formats/rtcp_receiver_report.fields: edit that file and make this one anew.

-- an error of the reader is one of the type's
abbrev pub becomes_rtcp_receiver_report : Error → ReceiverReportError → Type 0
becomes_rtcp_receiver_report error own = own ≡ Reader error

-- the lines, in order
abbrev pub rtcp_receiver_report_lines : FormatParts RtcpReceiverReport (Result RtcpReceiverReport ReceiverReportError)
    (λ s. Ok s)
rtcp_receiver_report_lines = do
  constant_0 ← const 2 2 refl OtherVersion
  padding ← field atom.bool (λ s. s.padding)
  reports_count ← field (atom.unsigned 64 5 refl) (λ s. length s.reports)
  constant_3 ← const 8 201 refl OtherPacket
  length ← field (atom.unsigned 16 16 refl) (λ s. s.length)
  ssrc ← field (atom.unsigned 32 32 refl) (λ s. s.ssrc)
  reports ← list reports_count report_block_format (λ s. s.reports)
  own_done (record { padding = padding; length = length; ssrc = ssrc; reports = reports })

-- the reads, in order
abbrev pub rtcp_receiver_report_decoder : Order → Decoder (Result RtcpReceiverReport ReceiverReportError)
rtcp_receiver_report_decoder o = rtcp_receiver_report_lines.read o

-- the writes, in order
abbrev pub rtcp_receiver_report_writes : Order → RtcpReceiverReport → List Encoder
rtcp_receiver_report_writes o value = rtcp_receiver_report_lines.write o value

-- each field fits its bits
pub record Fits (value : RtcpReceiverReport) : Type 0 where
  pub reports_count : length value.reports < 2 ^ 5
  pub length : value.length < 2 ^ 16
  pub ssrc : value.ssrc < 2 ^ 32
  pub reports : All ReportBlockFits value.reports

-- the number of bits
abbrev pub rtcp_receiver_report_size : Order → RtcpReceiverReport → ℕ
rtcp_receiver_report_size o value = rtcp_receiver_report_lines.size value

-- the format, with the facts that must fit by name
abbrev pub rtcp_receiver_report_format : OwnFormat ReceiverReportError RtcpReceiverReport
rtcp_receiver_report_format = named Fits (format rtcp_receiver_report_lines (λ s. (refl, refl {a = s})))
    (λ s fits. fits.reports_count & fits.length & fits.ssrc & fits.reports)

-- the bits of all fields, up to a whole byte
unfoldable pub rtcp_receiver_report_bits : RtcpReceiverReport → List Bool
rtcp_receiver_report_bits value = write_sequence (rtcp_receiver_report_writes High value ++ align ∷ []) 0
