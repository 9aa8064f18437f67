-- The header of a frame of MPEG audio (ISO/IEC 11172-3 and 13818-3, section 2.4.1.3).
use Rattle.protocols.specs.declared.mp3_header.Mp3Header.{Mp3Header}
use Rattle.protocols.specs.declared.mp3_header.Mp3Error.{Mp3Error}
use Rattle.protocols.specs.declared.mp3_header.Mp3Error.TheVariants.{Reader, NoSync, NoVersion, NoLayer}
use Rattle.protocols.specs.declared.mp3_header.Version.{Version}
use Rattle.protocols.specs.declared.mp3_header.Version.TheVariants.{Mpeg25, Mpeg2, Mpeg1}
use Rattle.protocols.specs.declared.mp3_header.Layer.{Layer}
use Rattle.protocols.specs.declared.mp3_header.Layer.TheVariants.{LayerThree, LayerTwo, LayerOne}
use Rattle.protocols.specs.declared.mp3_header.ChannelMode.{ChannelMode}
use Rattle.protocols.specs.declared.mp3_header.ChannelMode.TheVariants.{Stereo, JointStereo, DualChannel, Mono}
use Rattle.std.proofs.Common.{refl, true}
use Rattle.bitstream_format.specs.Format.{◌>>=◌, Plain as PlainFormat, Own as OwnFormat, Parts as FormatParts, format, renamed, field, own_field, const, ◌&◌, own_done}
use Rattle.bitstream_format.specs.Cases.{cases}
use Rattle.std.specs.Prelude.{◌≡◌, ◌^◌, ◌<◌, ◌++◌, ◌∷◌, [], ◌==◌, if◌then◌else◌, ℕ, Bool, List, Result, Ok, Err, take, drop, nat_lt}
use Rattle.bitstream_io.specs.Callers.{Decoder, Encoder, pure, Error, Order, High, number, and_then, first_bit, unsigned_decoder, align, write_sequence}
use Rattle.bitstream_format.specs.Atoms as atom

-- Made by `./format` from formats/mp3_header.fields: edit that file and make this one anew.

-- an error of the reader is one of the type's
abbrev pub becomes_mp3_header : Error → Mp3Error → Type 0
becomes_mp3_header error own = own ≡ Reader error

-- n bits after the first k
abbrev pub bits_at : ℕ → ℕ → List Bool → List Bool
bits_at k n bits = take n (drop k bits)

-- the 11 bits at 0, which are 2047
abbrev pub const_at_0 : List Bool → ℕ
const_at_0 bits = number High (bits_at 0 11 bits)

-- the case of a number
abbrev pub version_of : ℕ → (Result Version Mp3Error)
version_of n = if n == 0 then Ok Mpeg25 else if n == 2 then Ok Mpeg2 else if n == 3 then Ok Mpeg1 else Err NoVersion

-- the number of a case
abbrev pub version_number : Version → ℕ
version_number Mpeg25 = 0
version_number Mpeg2 = 2
version_number Mpeg1 = 3

-- the read of a case
abbrev pub version_read : Order → Decoder (Result Version Mp3Error)
version_read o = and_then (unsigned_decoder o 8 2) (λ v. pure (version_of v))

-- the number of each case fits its bits, and decodes to that case
pub version_small : (it : Version) → nat_lt (version_number it) (2 ^ 2) ≡ true
version_small Mpeg25 = refl
version_small Mpeg2 = refl
version_small Mpeg1 = refl

pub version_again : (it : Version) → version_of (version_number it) ≡ Ok it
version_again Mpeg25 = refl
version_again Mpeg2 = refl
version_again Mpeg1 = refl

-- the cases, by their numbers
abbrev pub version_cases : OwnFormat Mp3Error Version
version_cases = cases 8 2 refl version_of version_number version_small version_again

-- the case of a number
abbrev pub layer_of : ℕ → (Result Layer Mp3Error)
layer_of n = if n == 1 then Ok LayerThree else if n == 2 then Ok LayerTwo else if n == 3 then Ok LayerOne else Err
    NoLayer

-- the number of a case
abbrev pub layer_number : Layer → ℕ
layer_number LayerThree = 1
layer_number LayerTwo = 2
layer_number LayerOne = 3

-- the read of a case
abbrev pub layer_read : Order → Decoder (Result Layer Mp3Error)
layer_read o = and_then (unsigned_decoder o 8 2) (λ v. pure (layer_of v))

-- the number of each case fits its bits, and decodes to that case
pub layer_small : (it : Layer) → nat_lt (layer_number it) (2 ^ 2) ≡ true
layer_small LayerThree = refl
layer_small LayerTwo = refl
layer_small LayerOne = refl

pub layer_again : (it : Layer) → layer_of (layer_number it) ≡ Ok it
layer_again LayerThree = refl
layer_again LayerTwo = refl
layer_again LayerOne = refl

-- the cases, by their numbers
abbrev pub layer_cases : OwnFormat Mp3Error Layer
layer_cases = cases 8 2 refl layer_of layer_number layer_small layer_again

-- the case of a number
abbrev pub channel_mode_of : ℕ → ChannelMode
channel_mode_of n = if n == 0 then Stereo else if n == 1 then JointStereo else if n == 2 then DualChannel else Mono

-- the number of a case
abbrev pub channel_mode_number : ChannelMode → ℕ
channel_mode_number Stereo = 0
channel_mode_number JointStereo = 1
channel_mode_number DualChannel = 2
channel_mode_number Mono = 3

-- the read of a case
abbrev pub channel_mode_read : Order → Decoder ChannelMode
channel_mode_read o = and_then (unsigned_decoder o 8 2) (λ v. pure (channel_mode_of v))

-- the number of each case fits its bits, and decodes to that case
pub channel_mode_small : (it : ChannelMode) → nat_lt (channel_mode_number it) (2 ^ 2) ≡ true
channel_mode_small Stereo = refl
channel_mode_small JointStereo = refl
channel_mode_small DualChannel = refl
channel_mode_small Mono = refl

pub channel_mode_again : (it : ChannelMode) → channel_mode_of (channel_mode_number it) ≡ it
channel_mode_again Stereo = refl
channel_mode_again JointStereo = refl
channel_mode_again DualChannel = refl
channel_mode_again Mono = refl

-- the cases, by their numbers
abbrev pub channel_mode_cases : PlainFormat ChannelMode
channel_mode_cases = cases 8 2 refl channel_mode_of channel_mode_number channel_mode_small channel_mode_again

-- the lines, in order
abbrev pub mp3_header_lines : FormatParts Mp3Header (Result Mp3Header Mp3Error) (λ s. Ok s)
mp3_header_lines = do
  constant_0 ← const 11 2047 refl NoSync
  version ← own_field version_cases (λ s. s.version)
  layer ← own_field layer_cases (λ s. s.layer)
  protection_absent ← field atom.bool (λ s. s.protection_absent)
  bitrate ← field (atom.unsigned 8 4 refl) (λ s. s.bitrate)
  frequency ← field (atom.unsigned 8 2 refl) (λ s. s.frequency)
  padding ← field atom.bool (λ s. s.padding)
  private ← field atom.bool (λ s. s.private)
  mode ← field channel_mode_cases (λ s. s.mode)
  extension ← field (atom.unsigned 8 2 refl) (λ s. s.extension)
  copyright ← field atom.bool (λ s. s.copyright)
  original ← field atom.bool (λ s. s.original)
  emphasis ← field (atom.unsigned 8 2 refl) (λ s. s.emphasis)
  own_done (record {
    version = version;
    layer = layer;
    protection_absent = protection_absent;
    bitrate = bitrate;
    frequency = frequency;
    padding = padding;
    private = private;
    mode = mode;
    extension = extension;
    copyright =
        copyright;
    original = original;
    emphasis = emphasis;
  })

-- the reads, in order
abbrev pub mp3_header_decoder : Order → Decoder (Result Mp3Header Mp3Error)
mp3_header_decoder o = mp3_header_lines.read o

-- the writes, in order
abbrev pub mp3_header_writes : Order → Mp3Header → List Encoder
mp3_header_writes o value = mp3_header_lines.write o value

-- each field fits its bits
pub record Fits (value : Mp3Header) : Type 0 where
  pub bitrate : value.bitrate < 2 ^ 4
  pub frequency : value.frequency < 2 ^ 2
  pub extension : value.extension < 2 ^ 2
  pub emphasis : value.emphasis < 2 ^ 2

-- the number of bits
abbrev pub mp3_header_size : Order → Mp3Header → ℕ
mp3_header_size o value = 32

-- the format, with the facts that must fit by name
abbrev pub mp3_header_format : OwnFormat Mp3Error Mp3Header
mp3_header_format = renamed Fits (format mp3_header_lines (λ s. refl {a = s}))
    (λ s fits. fits.bitrate & fits.frequency & fits.extension & fits.emphasis)
    (λ s facts. record { bitrate = facts.0; frequency = facts.1.0; extension = facts.1.1.0; emphasis = facts.1.1.1 })

-- the bits of all fields, up to a whole byte
unfoldable pub mp3_header_bits : Mp3Header → List Bool
mp3_header_bits value = write_sequence (mp3_header_writes High value ++ align ∷ []) 0

-- the fields in bits, each by its place
abbrev pub mp3_header_at : Version → Layer → List Bool → Mp3Header
mp3_header_at version layer bits = record {
  version = version;
  layer = layer;
  protection_absent = first_bit (bits_at 15 1 bits);
  bitrate = number High (bits_at 16 4 bits);
  frequency = number High (bits_at 20 2 bits);
  padding = first_bit (bits_at 22 1 bits);
  private = first_bit (bits_at 23 1 bits);
  mode = channel_mode_of (number High (bits_at 24 2 bits));
  extension = number High (bits_at 26 2 bits);
  copyright = first_bit (bits_at 28 1 bits);
  original = first_bit (bits_at 29 1 bits);
  emphasis = number High (bits_at 30 2 bits);
}
