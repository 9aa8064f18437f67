-- The header of an RTP packet, with its sources and its extension (RFC 3550, section 5.1).
use Rattle.network_messages.specs.declared.rtp_packet.RtpPacket.{RtpPacket}
use Rattle.network_messages.specs.declared.rtp_packet.RtpPacketError.{RtpPacketError}
use Rattle.network_messages.specs.declared.rtp_packet.RtpPacketError.TheVariants.{Reader, OtherVersion}
use Rattle.network_messages.specs.declared.rtp_extension.RtpExtension.{RtpExtension}
use Rattle.network_messages.specs.RtpExtension.{rtp_extension_decoder, rtp_extension_format, Fits as RtpExtensionFits}
use Rattle.std.proofs.Common.{refl}
use Rattle.bitstream_format.specs.Format.{◌>>=◌, Own as OwnFormat, Parts as FormatParts, format, named, field, const, ◌&◌, own_done}
use Rattle.bitstream_format.specs.Lists.{even_list, own_optional, with_error, error_of}
use Rattle.std.specs.Prelude.{◌≡◌, ◌^◌, ◌<◌, ◌++◌, ◌∷◌, [], ℕ, Bool, List, Result, Ok, is_some, length}
use Rattle.std.specs.List.{All}
use Rattle.std.specs.Option.{ForSome}
use Rattle.bitstream_io.specs.Callers.{Decoder, Encoder, pure, Error, Order, High, and_then, align, write_sequence}
use Rattle.bitstream_format.specs.Atoms as atom

-- Made by `./format` from formats/rtp_packet.fields: edit that file and make this one anew.

-- an error of the reader is one of the type's
abbrev pub becomes_rtp_packet : Error → RtpPacketError → Type 0
becomes_rtp_packet error own = own ≡ Reader error

-- an error of a `RtpExtension`, as an error of the type
abbrev pub rtp_extension_error : Error → RtpPacketError
rtp_extension_error error = Reader error

-- a result with these errors
abbrev pub rtp_extension_answer : Result RtpExtension Error → Result RtpExtension RtpPacketError
rtp_extension_answer = error_of rtp_extension_error

-- the reads of a `RtpExtension`, with the errors of the type
abbrev pub rtp_extension_here : Order → Decoder (Result RtpExtension RtpPacketError)
rtp_extension_here o = and_then (rtp_extension_decoder o) (λ answer. pure (rtp_extension_answer answer))

-- the lines, in order
abbrev pub rtp_packet_lines : FormatParts RtpPacket (Result RtpPacket RtpPacketError) (λ s. Ok s)
rtp_packet_lines = do
  constant_0 ← const 2 2 refl OtherVersion
  padding ← field atom.bool (λ s. s.padding)
  has_extension ← field atom.bool (λ s. is_some s.extension)
  csrc_count ← field (atom.unsigned 64 4 refl) (λ s. length s.csrc)
  marker ← field atom.bool (λ s. s.marker)
  payload_type ← field (atom.unsigned 8 7 refl) (λ s. s.payload_type)
  sequence ← field (atom.unsigned 16 16 refl) (λ s. s.sequence)
  timestamp ← field (atom.unsigned 32 32 refl) (λ s. s.timestamp)
  ssrc ← field (atom.unsigned 32 32 refl) (λ s. s.ssrc)
  csrc ← even_list csrc_count 32 (atom.unsigned 32 32 refl) (λ x. refl) (λ s. s.csrc)
  extension ← own_optional has_extension (with_error rtp_extension_error rtp_extension_format) (λ s. s.extension)
  own_done (record {
    padding = padding;
    marker = marker;
    payload_type = payload_type;
    sequence = sequence;
    timestamp =
        timestamp;
    ssrc = ssrc;
    csrc = csrc;
    extension = extension;
  })

-- the reads, in order
abbrev pub rtp_packet_decoder : Order → Decoder (Result RtpPacket RtpPacketError)
rtp_packet_decoder o = rtp_packet_lines.read o

-- the writes, in order
abbrev pub rtp_packet_writes : Order → RtpPacket → List Encoder
rtp_packet_writes o value = rtp_packet_lines.write o value

-- each field fits its bits
pub record Fits (value : RtpPacket) : Type 0 where
  pub csrc_count : length value.csrc < 2 ^ 4
  pub payload_type : value.payload_type < 2 ^ 7
  pub sequence : value.sequence < 2 ^ 16
  pub timestamp : value.timestamp < 2 ^ 32
  pub ssrc : value.ssrc < 2 ^ 32
  pub csrc : All (λ x. x < 2 ^ 32) value.csrc
  pub extension : ForSome value.extension RtpExtensionFits

-- the number of bits
abbrev pub rtp_packet_size : Order → RtpPacket → ℕ
rtp_packet_size o value = rtp_packet_lines.size value

-- the format, with the facts that must fit by name
abbrev pub rtp_packet_format : OwnFormat RtpPacketError RtpPacket
rtp_packet_format = named Fits (format rtp_packet_lines (λ s. (refl, (refl, refl {a = s}))))
    (λ s fits. fits.csrc_count & fits.payload_type & fits.sequence & fits.timestamp & fits.ssrc & fits.csrc &
    fits.extension)

-- the bits of all fields, up to a whole byte
unfoldable pub rtp_packet_bits : RtpPacket → List Bool
rtp_packet_bits value = write_sequence (rtp_packet_writes High value ++ align ∷ []) 0
