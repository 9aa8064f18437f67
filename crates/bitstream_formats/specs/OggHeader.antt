-- The header of a page of Ogg (RFC 3533, section 6), without the lengths of its segments.
use Rattle.bitstream_formats.specs.declared.ogg_header.OggHeader.{OggHeader}
use Rattle.bitstream_formats.specs.declared.ogg_header.OggHeaderError.{OggHeaderError}
use Rattle.bitstream_formats.specs.declared.ogg_header.OggHeaderError.TheVariants.{Reader, NoCapture, UnknownVersion}
use Rattle.std.proofs.Common.{refl}
use Rattle.bitstream_format.specs.Format.{◌>>=◌, Own as OwnFormat, Parts as FormatParts, format, renamed, field, const, ◌&◌, own_done}
use Rattle.std.specs.Prelude.{◌≡◌, ◌^◌, ◌<◌, ◌++◌, ◌∷◌, [], ℕ, Bool, List, Result, Ok, take, drop}
use Rattle.bitstream_io.specs.Callers.{Decoder, Encoder, Error, Order, Low, number, first_bit, align, write_sequence}
use Rattle.bitstream_format.specs.Atoms as atom

-- Made by `./format` from formats/ogg_header.fields: edit that file and make this one anew.

-- an error of the reader is one of the type's
abbrev pub becomes_ogg_header : Error → OggHeaderError → Type 0
becomes_ogg_header error own = own ≡ Reader error

-- n bits after the first k
abbrev pub bits_at : ℕ → ℕ → List Bool → List Bool
bits_at k n bits = take n (drop k bits)

-- the 32 bits at 0, which are 1399285583
abbrev pub const_at_0 : List Bool → ℕ
const_at_0 bits = number Low (bits_at 0 32 bits)

-- the 8 bits at 32, which are 0
abbrev pub const_at_32 : List Bool → ℕ
const_at_32 bits = number Low (bits_at 32 8 bits)

-- the lines, in order
abbrev pub ogg_header_lines : FormatParts OggHeader (Result OggHeader OggHeaderError) (λ s. Ok s)
ogg_header_lines = do
  constant_0 ← const 32 1399285583 refl NoCapture
  constant_1 ← const 8 0 refl UnknownVersion
  continued ← field atom.bool (λ s. s.continued)
  first ← field atom.bool (λ s. s.first)
  last ← field atom.bool (λ s. s.last)
  unused ← field (atom.unsigned 8 5 refl) (λ s. s.unused)
  granule ← field (atom.unsigned 64 64 refl) (λ s. s.granule)
  serial ← field (atom.unsigned 32 32 refl) (λ s. s.serial)
  sequence ← field (atom.unsigned 32 32 refl) (λ s. s.sequence)
  checksum ← field (atom.unsigned 32 32 refl) (λ s. s.checksum)
  segments ← field (atom.unsigned 8 8 refl) (λ s. s.segments)
  own_done (record {
    continued = continued;
    first = first;
    last = last;
    unused = unused;
    granule = granule;
    serial =
        serial;
    sequence = sequence;
    checksum = checksum;
    segments = segments;
  })

-- the reads, in order
abbrev pub ogg_header_decoder : Order → Decoder (Result OggHeader OggHeaderError)
ogg_header_decoder o = ogg_header_lines.read o

-- the writes, in order
abbrev pub ogg_header_writes : Order → OggHeader → List Encoder
ogg_header_writes o value = ogg_header_lines.write o value

-- each field fits its bits
pub record Fits (value : OggHeader) : Type 0 where
  pub unused : value.unused < 2 ^ 5
  pub granule : value.granule < 2 ^ 64
  pub serial : value.serial < 2 ^ 32
  pub sequence : value.sequence < 2 ^ 32
  pub checksum : value.checksum < 2 ^ 32
  pub segments : value.segments < 2 ^ 8

-- the number of bits
abbrev pub ogg_header_size : Order → OggHeader → ℕ
ogg_header_size o value = 216

-- the format, with the facts that must fit by name
abbrev pub ogg_header_format : OwnFormat OggHeaderError OggHeader
ogg_header_format = renamed Fits (format ogg_header_lines (λ s. refl {a = s}))
    (λ s fits. fits.unused & fits.granule & fits.serial & fits.sequence & fits.checksum & fits.segments)
    (λ s facts. record {
      unused = facts.0;
      granule = facts.1.0;
      serial = facts.1.1.0;
      sequence = facts.1.1.1.0;
      checksum
          = facts.1.1.1.1.0;
      segments = facts.1.1.1.1.1;
    })

-- the bits of all fields, up to a whole byte
unfoldable pub ogg_header_bits : OggHeader → List Bool
ogg_header_bits value = write_sequence (ogg_header_writes Low value ++ align ∷ []) 0

-- the fields in bits, each by its place
abbrev pub ogg_header_at : List Bool → OggHeader
ogg_header_at bits = record {
  continued = first_bit (bits_at 40 1 bits);
  first = first_bit (bits_at 41 1 bits);
  last = first_bit (bits_at 42 1 bits);
  unused = number Low (bits_at 43 5 bits);
  granule = number Low (bits_at 48 64 bits);
  serial = number Low (bits_at 112 32 bits);
  sequence = number Low (bits_at 144 32 bits);
  checksum = number Low (bits_at 176 32 bits);
  segments = number Low (bits_at 208 8 bits);
}
