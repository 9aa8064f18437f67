-- The fixed header of an RTP packet, and the sources that contributed to it.
use Rattle.bitstream_format.specs.Examples.RtpHeaderFields.{RtpHeaderFields}
use Rattle.bitstream_format.specs.declared.examples.rtp_header.RtpError.{RtpError}
use Rattle.bitstream_format.specs.declared.examples.rtp_header.RtpError.TheVariants.{Reader, WrongVersion}
use Rattle.std.specs.Prelude.{◌≡◌, ◌<◌, ◌^◌, length}
use Rattle.std.specs.List.{All}
use Rattle.std.proofs.Common.{refl}
use Rattle.bitstream_io.specs.Callers.{Error}
use Rattle.bitstream_format.specs.Format.{◌>>=◌, Own, format, named, field, const, own_done}
use Rattle.bitstream_format.specs.Atoms as atom
use Rattle.bitstream_format.specs.Lists.{list}

-- an error of the reader becomes one of the type
abbrev pub becomes_rtp_header : Error → RtpError → Type 0
becomes_rtp_header error own = own ≡ Reader error

-- each field fits its bits, and the sources are fewer than 16
pub record RtpFits (s : RtpHeaderFields) : Type 0 where
  pub sources : length s.csrc < 2 ^ 4
  pub payload_type : s.payload_type < 2 ^ 7
  pub sequence : s.sequence < 2 ^ 16
  pub timestamp : s.timestamp < 2 ^ 32
  pub ssrc : s.ssrc < 2 ^ 32
  pub csrc : All (λ x. x < 2 ^ 32) s.csrc

-- the header, and the sources that it counts
abbrev pub rtp_header : Own RtpError RtpHeaderFields
rtp_header = named RtpFits (format (do
  version ← const 2 2 refl WrongVersion
  padding ← field atom.bool (λ s. s.padding)
  extension ← field atom.bool (λ s. s.extension)
  csrc_count ← field (atom.unsigned 64 4 refl) (λ s. length s.csrc)
  marker ← field atom.bool (λ s. s.marker)
  payload_type ← field (atom.unsigned 8 7 refl) (λ s. s.payload_type)
  sequence ← field (atom.unsigned 16 16 refl) (λ s. s.sequence)
  timestamp ← field (atom.unsigned 32 32 refl) (λ s. s.timestamp)
  ssrc ← field (atom.unsigned 32 32 refl) (λ s. s.ssrc)
  csrc ← list csrc_count (atom.unsigned 32 32 refl) (λ s. s.csrc)
  own_done (record {
    padding = padding;
    extension = extension;
    marker = marker;
    payload_type = payload_type;
    sequence = sequence;
    timestamp = timestamp;
    ssrc = ssrc;
    csrc = csrc;
  })) (λ s. (refl, refl {a = s})))
    (λ s fits. (fits.sources, (fits.payload_type, (fits.sequence, (fits.timestamp, (fits.ssrc, fits.csrc))))))
