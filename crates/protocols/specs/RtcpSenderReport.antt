-- A sender report of RTCP, up to its report blocks (RFC 3550, section 6.4.1).
use Rattle.protocols.specs.declared.rtcp_sender_report.RtcpSenderReport.{RtcpSenderReport}
use Rattle.protocols.specs.declared.rtcp_sender_report.RtcpError.{RtcpError}
use Rattle.protocols.specs.declared.rtcp_sender_report.RtcpError.TheVariants.{Reader, OtherVersion, OtherPacket}
use Rattle.protocols.specs.NtpTimestamp.{ntp_timestamp_format, Fits as NtpTimestampFits}
use Rattle.std.proofs.Common.{refl}
use Rattle.bitstream_format.specs.Format.{◌>>=◌, Own as OwnFormat, Parts as FormatParts, format, renamed, field, const, ◌&◌, own_done}
use Rattle.std.specs.Prelude.{◌≡◌, ◌^◌, ◌<◌, ◌++◌, ◌∷◌, [], ℕ, Bool, List, Result, Ok, length, take, drop}
use Rattle.bitstream_io.specs.Callers.{Decoder, Encoder, Error, Order, High, number, first_bit, align, write_sequence}
use Rattle.bitstream_format.specs.Atoms as atom

-- Made by `./format` from formats/rtcp_sender_report.fields: edit that file and make this one anew.

-- an error of the reader is one of the type's
abbrev pub becomes_rtcp_sender_report : Error → RtcpError → Type 0
becomes_rtcp_sender_report error own = own ≡ Reader error

-- n bits after the first k
abbrev pub bits_at : ℕ → ℕ → List Bool → List Bool
bits_at k n bits = take n (drop k bits)

-- the 2 bits at 0, which are 2
abbrev pub const_at_0 : List Bool → ℕ
const_at_0 bits = number High (bits_at 0 2 bits)

-- the 8 bits at 8, which are 200
abbrev pub const_at_8 : List Bool → ℕ
const_at_8 bits = number High (bits_at 8 8 bits)

-- the lines, in order
abbrev pub rtcp_sender_report_lines : FormatParts RtcpSenderReport (Result RtcpSenderReport RtcpError) (λ s. Ok s)
rtcp_sender_report_lines = do
  constant_0 ← const 2 2 refl OtherVersion
  padding ← field atom.bool (λ s. s.padding)
  reports ← field (atom.unsigned 8 5 refl) (λ s. s.reports)
  constant_3 ← const 8 200 refl OtherPacket
  length ← field (atom.unsigned 16 16 refl) (λ s. s.length)
  ssrc ← field (atom.unsigned 32 32 refl) (λ s. s.ssrc)
  sent ← field ntp_timestamp_format (λ s. s.sent)
  timestamp ← field (atom.unsigned 32 32 refl) (λ s. s.timestamp)
  packets ← field (atom.unsigned 32 32 refl) (λ s. s.packets)
  octets ← field (atom.unsigned 32 32 refl) (λ s. s.octets)
  own_done (record {
    padding = padding;
    reports = reports;
    length = length;
    ssrc = ssrc;
    sent = sent;
    timestamp =
        timestamp;
    packets = packets;
    octets = octets;
  })

-- the reads, in order
abbrev pub rtcp_sender_report_decoder : Order → Decoder (Result RtcpSenderReport RtcpError)
rtcp_sender_report_decoder o = rtcp_sender_report_lines.read o

-- the writes, in order
abbrev pub rtcp_sender_report_writes : Order → RtcpSenderReport → List Encoder
rtcp_sender_report_writes o value = rtcp_sender_report_lines.write o value

-- each field fits its bits
pub record Fits (value : RtcpSenderReport) : Type 0 where
  pub reports : value.reports < 2 ^ 5
  pub length : value.length < 2 ^ 16
  pub ssrc : value.ssrc < 2 ^ 32
  pub sent : NtpTimestampFits value.sent
  pub timestamp : value.timestamp < 2 ^ 32
  pub packets : value.packets < 2 ^ 32
  pub octets : value.octets < 2 ^ 32

-- the number of bits
abbrev pub rtcp_sender_report_size : Order → RtcpSenderReport → ℕ
rtcp_sender_report_size o value = 224

-- the format, with the facts that must fit by name
abbrev pub rtcp_sender_report_format : OwnFormat RtcpError RtcpSenderReport
rtcp_sender_report_format = renamed Fits (format rtcp_sender_report_lines (λ s. refl {a = s}))
    (λ s fits. fits.reports & fits.length & fits.ssrc & fits.sent & fits.timestamp & fits.packets & fits.octets)
    (λ s facts. record {
      reports = facts.0;
      length = facts.1.0;
      ssrc = facts.1.1.0;
      sent = facts.1.1.1.0;
      timestamp =
          facts.1.1.1.1.0;
      packets = facts.1.1.1.1.1.0;
      octets = facts.1.1.1.1.1.1;
    })

-- the bits of all fields, up to a whole byte
unfoldable pub rtcp_sender_report_bits : RtcpSenderReport → List Bool
rtcp_sender_report_bits value = write_sequence (rtcp_sender_report_writes High value ++ align ∷ []) 0

-- the fields in bits, each by its place
abbrev pub rtcp_sender_report_at : List Bool → RtcpSenderReport
rtcp_sender_report_at bits = record {
  padding = first_bit (bits_at 2 1 bits);
  reports = number High (bits_at 3 5 bits);
  length = number High (bits_at 16 16 bits);
  ssrc = number High (bits_at 32 32 bits);
  sent = record { seconds = number High (bits_at 64 32 bits); fraction = number High (bits_at 96 32 bits) };
  timestamp = number High (bits_at 128 32 bits);
  packets = number High (bits_at 160 32 bits);
  octets = number High (bits_at 192 32 bits);
}
