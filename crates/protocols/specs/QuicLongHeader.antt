-- The start of a long header of QUIC (RFC 9000, section 17.2, and RFC 8999, section 5.1).
use Rattle.protocols.specs.declared.quic_long_header.QuicLongHeader.{QuicLongHeader}
use Rattle.protocols.specs.declared.quic_long_header.QuicError.{QuicError}
use Rattle.protocols.specs.declared.quic_long_header.QuicError.TheVariants.{Reader, ShortHeader}
use Rattle.std.proofs.Common.{refl}
use Rattle.bitstream_format.specs.Format.{◌>>=◌, Own as OwnFormat, Parts as FormatParts, format, named, field, const, ◌&◌, own_done}
use Rattle.bitstream_format.specs.Lists.{byte_list}
use Rattle.std.specs.Prelude.{◌≡◌, ◌^◌, ◌<◌, ◌++◌, ◌∷◌, [], ℕ, Bool, List, Result, Ok, length}
use Rattle.std.specs.List.{All}
use Rattle.bitstream_io.specs.Callers.{Decoder, Encoder, Error, Order, High, align, write_sequence}
use Rattle.bitstream_format.specs.Atoms as atom

-- Made by `./format` from formats/quic_long_header.fields: edit that file and make this one anew.

-- an error of the reader is one of the type's
abbrev pub becomes_quic_long_header : Error → QuicError → Type 0
becomes_quic_long_header error own = own ≡ Reader error

-- the lines, in order
abbrev pub quic_long_header_lines : FormatParts QuicLongHeader (Result QuicLongHeader QuicError) (λ s. Ok s)
quic_long_header_lines = do
  constant_0 ← const 1 1 refl ShortHeader
  fixed ← field atom.bool (λ s. s.fixed)
  kind ← field (atom.unsigned 8 2 refl) (λ s. s.kind)
  specific ← field (atom.unsigned 8 4 refl) (λ s. s.specific)
  version ← field (atom.unsigned 32 32 refl) (λ s. s.version)
  target_count ← field (atom.unsigned 64 8 refl) (λ s. length s.target)
  target ← byte_list target_count (λ s. s.target)
  source_count ← field (atom.unsigned 64 8 refl) (λ s. length s.source)
  source ← byte_list source_count (λ s. s.source)
  own_done (record {
    fixed = fixed;
    kind = kind;
    specific = specific;
    version = version;
    target = target;
    source =
        source;
  })

-- the reads, in order
abbrev pub quic_long_header_decoder : Order → Decoder (Result QuicLongHeader QuicError)
quic_long_header_decoder o = quic_long_header_lines.read o

-- the writes, in order
abbrev pub quic_long_header_writes : Order → QuicLongHeader → List Encoder
quic_long_header_writes o value = quic_long_header_lines.write o value

-- each field fits its bits
pub record Fits (value : QuicLongHeader) : Type 0 where
  pub kind : value.kind < 2 ^ 2
  pub specific : value.specific < 2 ^ 4
  pub version : value.version < 2 ^ 32
  pub target_count : length value.target < 2 ^ 8
  pub target : All (λ b. b < 256) value.target
  pub source_count : length value.source < 2 ^ 8
  pub source : All (λ b. b < 256) value.source

-- the number of bits
abbrev pub quic_long_header_size : Order → QuicLongHeader → ℕ
quic_long_header_size o value = quic_long_header_lines.size value

-- the format, with the facts that must fit by name
abbrev pub quic_long_header_format : OwnFormat QuicError QuicLongHeader
quic_long_header_format = named Fits (format quic_long_header_lines (λ s. (refl, (refl, refl {a = s}))))
    (λ s fits. fits.kind & fits.specific & fits.version & fits.target_count & fits.target & fits.source_count &
    fits.source)

-- the bits of all fields, up to a whole byte
unfoldable pub quic_long_header_bits : QuicLongHeader → List Bool
quic_long_header_bits value = write_sequence (quic_long_header_writes High value ++ align ∷ []) 0
