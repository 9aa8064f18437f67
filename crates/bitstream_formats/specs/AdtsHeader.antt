-- The header before a frame of AAC (ISO/IEC 14496-3, section 1.A.2.2), without its checksum.
use Rattle.bitstream_formats.specs.declared.adts_header.AdtsHeader.{AdtsHeader}
use Rattle.bitstream_formats.specs.declared.adts_header.AdtsHeaderError.{AdtsHeaderError}
use Rattle.bitstream_formats.specs.declared.adts_header.AdtsHeaderError.TheVariants.{Reader, NoSync, UnknownLayer}
use Rattle.std.proofs.Common.{refl}
use Rattle.bitstream_format.specs.Format.{◌>>=◌, Own as OwnFormat, Parts as FormatParts, format, renamed, field, const, ◌&◌, own_done}
use Rattle.std.specs.Prelude.{◌≡◌, ◌^◌, ◌<◌, ◌++◌, ◌∷◌, [], ℕ, Bool, List, Result, Ok, take, drop}
use Rattle.bitstream_io.specs.Callers.{Decoder, Encoder, Error, Order, High, number, first_bit, align, write_sequence}
use Rattle.bitstream_format.specs.Atoms as atom

-- Made by `./format` from formats/adts_header.fields: edit that file and make this one anew.

-- an error of the reader is one of the type's
abbrev pub becomes_adts_header : Error → AdtsHeaderError → Type 0
becomes_adts_header error own = own ≡ Reader error

-- n bits after the first k
abbrev pub bits_at : ℕ → ℕ → List Bool → List Bool
bits_at k n bits = take n (drop k bits)

-- the 12 bits at 0, which are 4095
abbrev pub const_at_0 : List Bool → ℕ
const_at_0 bits = number High (bits_at 0 12 bits)

-- the 2 bits at 13, which are 0
abbrev pub const_at_13 : List Bool → ℕ
const_at_13 bits = number High (bits_at 13 2 bits)

-- the lines, in order
abbrev pub adts_header_lines : FormatParts AdtsHeader (Result AdtsHeader AdtsHeaderError) (λ s. Ok s)
adts_header_lines = do
  constant_0 ← const 12 4095 refl NoSync
  mpeg_2 ← field atom.bool (λ s. s.mpeg_2)
  constant_2 ← const 2 0 refl UnknownLayer
  protection_absent ← field atom.bool (λ s. s.protection_absent)
  profile ← field (atom.unsigned 8 2 refl) (λ s. s.profile)
  frequency ← field (atom.unsigned 8 4 refl) (λ s. s.frequency)
  private ← field atom.bool (λ s. s.private)
  channels ← field (atom.unsigned 8 3 refl) (λ s. s.channels)
  original ← field atom.bool (λ s. s.original)
  home ← field atom.bool (λ s. s.home)
  copyright_id ← field atom.bool (λ s. s.copyright_id)
  copyright_start ← field atom.bool (λ s. s.copyright_start)
  frame_length ← field (atom.unsigned 16 13 refl) (λ s. s.frame_length)
  fullness ← field (atom.unsigned 16 11 refl) (λ s. s.fullness)
  blocks ← field (atom.unsigned 8 2 refl) (λ s. s.blocks)
  own_done (record {
    mpeg_2 = mpeg_2;
    protection_absent = protection_absent;
    profile = profile;
    frequency = frequency;
    private = private;
    channels = channels;
    original = original;
    home = home;
    copyright_id = copyright_id;
    copyright_start = copyright_start;
    frame_length = frame_length;
    fullness = fullness;
    blocks = blocks;
  })

-- the reads, in order
abbrev pub adts_header_decoder : Order → Decoder (Result AdtsHeader AdtsHeaderError)
adts_header_decoder o = adts_header_lines.read o

-- the writes, in order
abbrev pub adts_header_writes : Order → AdtsHeader → List Encoder
adts_header_writes o value = adts_header_lines.write o value

-- each field fits its bits
pub record Fits (value : AdtsHeader) : Type 0 where
  pub profile : value.profile < 2 ^ 2
  pub frequency : value.frequency < 2 ^ 4
  pub channels : value.channels < 2 ^ 3
  pub frame_length : value.frame_length < 2 ^ 13
  pub fullness : value.fullness < 2 ^ 11
  pub blocks : value.blocks < 2 ^ 2

-- the number of bits
abbrev pub adts_header_size : Order → AdtsHeader → ℕ
adts_header_size o value = 56

-- the format, with the facts that must fit by name
abbrev pub adts_header_format : OwnFormat AdtsHeaderError AdtsHeader
adts_header_format = renamed Fits (format adts_header_lines (λ s. refl {a = s}))
    (λ s fits. fits.profile & fits.frequency & fits.channels & fits.frame_length & fits.fullness & fits.blocks)
    (λ s facts. record {
      profile = facts.0;
      frequency = facts.1.0;
      channels = facts.1.1.0;
      frame_length = facts.1.1.1.0;
      fullness = facts.1.1.1.1.0;
      blocks = facts.1.1.1.1.1;
    })

-- the bits of all fields, up to a whole byte
unfoldable pub adts_header_bits : AdtsHeader → List Bool
adts_header_bits value = write_sequence (adts_header_writes High value ++ align ∷ []) 0

-- the fields in bits, each by its place
abbrev pub adts_header_at : List Bool → AdtsHeader
adts_header_at bits = record {
  mpeg_2 = first_bit (bits_at 12 1 bits);
  protection_absent = first_bit (bits_at 15 1 bits);
  profile = number High (bits_at 16 2 bits);
  frequency = number High (bits_at 18 4 bits);
  private = first_bit (bits_at 22 1 bits);
  channels = number High (bits_at 23 3 bits);
  original = first_bit (bits_at 26 1 bits);
  home = first_bit (bits_at 27 1 bits);
  copyright_id = first_bit (bits_at 28 1 bits);
  copyright_start = first_bit (bits_at 29 1 bits);
  frame_length = number High (bits_at 30 13 bits);
  fullness = number High (bits_at 43 11 bits);
  blocks = number High (bits_at 54 2 bits);
}
