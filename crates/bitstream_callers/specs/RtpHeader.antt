-- The fixed header of an RTP packet, and the sources that contributed to it.
use Rattle.bitstream_callers.specs.declared.rtp_header.RtpHeader.{RtpHeader}
use Rattle.bitstream_callers.specs.declared.rtp_header.RtpError.{RtpError}
use Rattle.bitstream_callers.specs.declared.rtp_header.RtpError.TheVariants.{Reader, WrongVersion}
use Rattle.std.proofs.Common.{refl}
use Rattle.bitstream_format.specs.Format.{◌>>=◌, Own as OwnFormat, Parts as FormatParts, format, renamed, field, const, ◌&◌, own_done}
use Rattle.bitstream_format.specs.Lists.{even_list}
use Rattle.std.specs.Prelude.{◌≡◌, ◌^◌, ◌<◌, ◌++◌, ◌∷◌, [], ℕ, Bool, List, Result, Ok, length}
use Rattle.std.specs.List.{All}
use Rattle.bitstream_io.specs.Callers.{Decoder, Encoder, Error, Order, High, align, write_sequence}
use Rattle.bitstream_format.specs.Atoms as atom

-- Made by `./format` from formats/rtp_header.fields: edit that file and make this one anew.

-- an error of the reader is one of the type's
abbrev pub becomes_rtp_header : Error → RtpError → Type 0
becomes_rtp_header error own = own ≡ Reader error

-- the lines, in order
abbrev pub rtp_header_lines : FormatParts RtpHeader (Result RtpHeader RtpError) (λ s. Ok s)
rtp_header_lines = do
  constant_0 ← const 2 2 refl WrongVersion
  padding ← field atom.bool (λ s. s.padding)
  extension ← field atom.bool (λ s. s.extension)
  csrc_count ← field (atom.unsigned 64 4 refl) (λ s. length s.csrc)
  marker ← field atom.bool (λ s. s.marker)
  payload_type ← field (atom.unsigned 8 7 refl) (λ s. s.payload_type)
  sequence ← field (atom.unsigned 16 16 refl) (λ s. s.sequence)
  timestamp ← field (atom.unsigned 32 32 refl) (λ s. s.timestamp)
  ssrc ← field (atom.unsigned 32 32 refl) (λ s. s.ssrc)
  csrc ← even_list csrc_count 32 (atom.unsigned 32 32 refl) (λ x. refl) (λ s. s.csrc)
  own_done (record {
    padding = padding;
    extension = extension;
    marker = marker;
    payload_type = payload_type;
    sequence =
        sequence;
    timestamp = timestamp;
    ssrc = ssrc;
    csrc = csrc;
  })

-- the reads, in order
abbrev pub rtp_header_decoder : Order → Decoder (Result RtpHeader RtpError)
rtp_header_decoder o = rtp_header_lines.read o

-- the writes, in order
abbrev pub rtp_header_writes : Order → RtpHeader → List Encoder
rtp_header_writes o value = rtp_header_lines.write o value

-- each field fits its bits
pub record Fits (value : RtpHeader) : Type 0 where
  pub csrc_count : length value.csrc < 2 ^ 4
  pub payload_type : value.payload_type < 2 ^ 7
  pub sequence : value.sequence < 2 ^ 16
  pub timestamp : value.timestamp < 2 ^ 32
  pub ssrc : value.ssrc < 2 ^ 32
  pub csrc : All (λ x. x < 2 ^ 32) value.csrc

-- the number of bits
abbrev pub rtp_header_size : Order → RtpHeader → ℕ
rtp_header_size o value = rtp_header_lines.size value

-- the format, with the facts that must fit by name
abbrev pub rtp_header_format : OwnFormat RtpError RtpHeader
rtp_header_format = renamed Fits (format rtp_header_lines (λ s. (refl, refl {a = s})))
    (λ s fits. fits.csrc_count & fits.payload_type & fits.sequence & fits.timestamp & fits.ssrc & fits.csrc)
    (λ s facts. record {
      csrc_count = facts.0;
      payload_type = facts.1.0;
      sequence = facts.1.1.0;
      timestamp =
          facts.1.1.1.0;
      ssrc = facts.1.1.1.1.0;
      csrc = facts.1.1.1.1.1;
    })

-- the bits of all fields, up to a whole byte
unfoldable pub rtp_header_bits : RtpHeader → List Bool
rtp_header_bits value = write_sequence (rtp_header_writes High value ++ align ∷ []) 0
