-- The extension of an RTP header (RFC 3550, section 5.3.1).
use Rattle.network_messages.specs.declared.rtp_extension.RtpExtension.{RtpExtension}
use Rattle.bitstream_format.specs.Stated.{size_in_units, stored_size}
use Rattle.std.proofs.Common.{refl}
use Rattle.bitstream_format.specs.Format.{◌>>=◌, Own as OwnFormat, Parts as FormatParts, format, named, field, ◌&◌, own_done}
use Rattle.bitstream_format.specs.Measured.{vec}
use Rattle.bitstream_format.specs.SizeLaws.{units-again}
use Rattle.std.specs.Prelude.{◌^◌, ◌<◌, ◌++◌, ◌∷◌, [], ℕ, Bool, List, Result, Ok, length}
use Rattle.std.specs.List.{All}
use Rattle.bitstream_io.specs.Callers.{Decoder, Encoder, Error, Order, High, align, write_sequence}
use Rattle.bitstream_format.specs.Atoms as atom

-- Made by `./format` from formats/rtp_extension.fields: edit that file and make this one anew.

-- the lines, in order
abbrev pub rtp_extension_lines : FormatParts RtpExtension (Result RtpExtension Error) (λ s. Ok s)
rtp_extension_lines = do
  profile ← field (atom.unsigned 16 16 refl) (λ s. s.profile)
  data_bytes ← field (atom.unsigned 64 16 refl) (λ s. stored_size 4 0 0 (length s.data))
  data_ ← field (vec (size_in_units 4 0 data_bytes)) (λ s. s.data)
  own_done (record { profile = profile; «data» = data_ })

-- the reads, in order
abbrev pub rtp_extension_decoder : Order → Decoder (Result RtpExtension Error)
rtp_extension_decoder o = rtp_extension_lines.read o

-- the writes, in order
abbrev pub rtp_extension_writes : Order → RtpExtension → List Encoder
rtp_extension_writes o value = rtp_extension_lines.write o value

-- each field fits its bits
pub record Fits (value : RtpExtension) : Type 0 where
  pub profile : value.profile < 2 ^ 16
  pub data_bytes : stored_size 4 0 0 (length value.data) < 2 ^ 16
  pub data_ : All (λ b. b < 256) value.data

-- the number of bits
abbrev pub rtp_extension_size : Order → RtpExtension → ℕ
rtp_extension_size o value = rtp_extension_lines.size value

-- the format, with the facts that must fit by name
abbrev pub rtp_extension_format : OwnFormat Error RtpExtension
rtp_extension_format = named Fits (format rtp_extension_lines (λ s. refl {a = s}))
    (λ s fits. fits.profile & fits.data_bytes & fits.data_ & (units-again 4 0 (length s.data) (2 ^ 16) fits.data_bytes
    refl refl))

-- the bits of all fields, up to a whole byte
unfoldable pub rtp_extension_bits : RtpExtension → List Bool
rtp_extension_bits value = write_sequence (rtp_extension_writes High value ++ align ∷ []) 0
