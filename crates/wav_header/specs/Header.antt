-- The first 44 bytes of a WAV file whose first two chunks are `fmt ` and `data`.
use Rattle.wav_header.specs.declared.header.Header.{Header}
use Rattle.wav_header.specs.declared.header.HeaderError.{HeaderError}
use Rattle.wav_header.specs.declared.header.HeaderError.TheVariants.{Reader, NoRiff, NoWave, NoFormat, LongFormat, NoData}
use Rattle.wav_header.specs.declared.header.Coding.{Coding}
use Rattle.wav_header.specs.declared.header.Coding.TheVariants.{Pcm, Float, ALaw, MuLaw, Other}
use Rattle.std.proofs.Common.{refl}
use Rattle.bitstream_format.specs.Format.{◌>>=◌, Plain as PlainFormat, Own as OwnFormat, Parts as FormatParts, format, named, field, const, ◌&◌, own_done}
use Rattle.bitstream_format.specs.Cases.{open_cases}
use Rattle.std.specs.Prelude.{◌≡◌, ◌^◌, ◌<◌, ◌++◌, ◌∷◌, [], ◌==◌, if◌then◌else◌, ℕ, Bool, List, Result, Ok, take, drop}
use Rattle.bitstream_io.specs.Callers.{Decoder, Encoder, pure, Error, Order, Low, number, and_then, unsigned_decoder, align, write_sequence}
use Rattle.bitstream_format.specs.Atoms as atom

-- Made by `./format` from formats/header.fields: edit that file and make this one anew.

-- an error of the reader is one of the type's
abbrev pub becomes_header : Error → HeaderError → Type 0
becomes_header error own = own ≡ Reader error

-- n bits after the first k
abbrev pub bits_at : ℕ → ℕ → List Bool → List Bool
bits_at k n bits = take n (drop k bits)

-- the 32 bits at 0, which are 1179011410
abbrev pub const_at_0 : List Bool → ℕ
const_at_0 bits = number Low (bits_at 0 32 bits)

-- the 32 bits at 64, which are 1163280727
abbrev pub const_at_64 : List Bool → ℕ
const_at_64 bits = number Low (bits_at 64 32 bits)

-- the 32 bits at 96, which are 544501094
abbrev pub const_at_96 : List Bool → ℕ
const_at_96 bits = number Low (bits_at 96 32 bits)

-- the 32 bits at 128, which are 16
abbrev pub const_at_128 : List Bool → ℕ
const_at_128 bits = number Low (bits_at 128 32 bits)

-- the case of a number
abbrev pub coding_of : ℕ → Coding
coding_of n = if n == 1 then Pcm else if n == 3 then Float else if n == 6 then ALaw else if n == 7 then MuLaw else Other
    n

-- the number of a case
abbrev pub coding_number : Coding → ℕ
coding_number Pcm = 1
coding_number Float = 3
coding_number ALaw = 6
coding_number MuLaw = 7
coding_number (Other n) = n

-- the read of a case
abbrev pub coding_read : Order → Decoder Coding
coding_read o = and_then (unsigned_decoder o 16 16) (λ v. pure (coding_of v))

-- the cases, by their numbers
abbrev pub coding_cases : PlainFormat Coding
coding_cases = open_cases 16 16 refl coding_of coding_number

-- the 32 bits at 288, which are 1635017060
abbrev pub const_at_288 : List Bool → ℕ
const_at_288 bits = number Low (bits_at 288 32 bits)

-- the lines, in order
abbrev pub header_lines : FormatParts Header (Result Header HeaderError) (λ s. Ok s)
header_lines = do
  constant_0 ← const 32 1179011410 refl NoRiff
  size ← field (atom.unsigned 32 32 refl) (λ s. s.size)
  constant_2 ← const 32 1163280727 refl NoWave
  constant_3 ← const 32 544501094 refl NoFormat
  constant_4 ← const 32 16 refl LongFormat
  coding ← field coding_cases (λ s. s.coding)
  channels ← field (atom.unsigned 16 16 refl) (λ s. s.channels)
  sample_rate ← field (atom.unsigned 32 32 refl) (λ s. s.sample_rate)
  byte_rate ← field (atom.unsigned 32 32 refl) (λ s. s.byte_rate)
  block_size ← field (atom.unsigned 16 16 refl) (λ s. s.block_size)
  bits_per_sample ← field (atom.unsigned 16 16 refl) (λ s. s.bits_per_sample)
  constant_11 ← const 32 1635017060 refl NoData
  data_size ← field (atom.unsigned 32 32 refl) (λ s. s.data_size)
  own_done (record {
    size = size;
    coding = coding;
    channels = channels;
    sample_rate = sample_rate;
    byte_rate =
        byte_rate;
    block_size = block_size;
    bits_per_sample = bits_per_sample;
    data_size = data_size;
  })

-- the reads, in order
abbrev pub header_decoder : Order → Decoder (Result Header HeaderError)
header_decoder o = header_lines.read o

-- the writes, in order
abbrev pub header_writes : Order → Header → List Encoder
header_writes o value = header_lines.write o value

-- each field fits its bits
pub record Fits (value : Header) : Type 0 where
  pub size : value.size < 2 ^ 32
  pub coding : coding_number value.coding < 2 ^ 16
  pub coding_again : coding_of (coding_number value.coding) ≡ value.coding
  pub channels : value.channels < 2 ^ 16
  pub sample_rate : value.sample_rate < 2 ^ 32
  pub byte_rate : value.byte_rate < 2 ^ 32
  pub block_size : value.block_size < 2 ^ 16
  pub bits_per_sample : value.bits_per_sample < 2 ^ 16
  pub data_size : value.data_size < 2 ^ 32

-- the number of bits
abbrev pub header_size : Order → Header → ℕ
header_size o value = 352

-- the format, with the facts that must fit by name
abbrev pub header_format : OwnFormat HeaderError Header
header_format = named Fits (format header_lines (λ s. refl {a = s}))
    (λ s fits. fits.size & fits.coding & fits.coding_again & fits.channels & fits.sample_rate & fits.byte_rate &
    fits.block_size & fits.bits_per_sample & fits.data_size)

-- the bits of all fields, up to a whole byte
unfoldable pub header_bits : Header → List Bool
header_bits value = write_sequence (header_writes Low value ++ align ∷ []) 0

-- the fields in bits, each by its place
abbrev pub header_at : List Bool → Header
header_at bits = record {
  size = number Low (bits_at 32 32 bits);
  coding = coding_of (number Low (bits_at 160 16 bits));
  channels = number Low (bits_at 176 16 bits);
  sample_rate = number Low (bits_at 192 32 bits);
  byte_rate = number Low (bits_at 224 32 bits);
  block_size = number Low (bits_at 256 16 bits);
  bits_per_sample = number Low (bits_at 272 16 bits);
  data_size = number Low (bits_at 320 32 bits);
}
