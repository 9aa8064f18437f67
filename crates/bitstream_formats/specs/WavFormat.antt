-- The first 16 bytes of the chunk `fmt ` of a WAV file.
use Rattle.bitstream_formats.specs.declared.wav_format.WavFormat.{WavFormat}
use Rattle.bitstream_formats.specs.declared.wav_format.Coding.{Coding}
use Rattle.bitstream_formats.specs.declared.wav_format.Coding.TheVariants.{Pcm, Float, ALaw, MuLaw, Extensible, Other}
use Rattle.std.proofs.Common.{refl}
use Rattle.bitstream_format.specs.Format.{◌>>=◌, Plain as PlainFormat, Parts as FormatParts, format, named, field, ◌&◌, done}
use Rattle.bitstream_format.specs.Cases.{open_cases}
use Rattle.std.specs.Prelude.{◌≡◌, ◌^◌, ◌<◌, ◌++◌, ◌∷◌, [], ◌==◌, if◌then◌else◌, ℕ, Bool, List, take, drop}
use Rattle.bitstream_io.specs.Callers.{Decoder, Encoder, pure, Order, Low, number, and_then, unsigned_decoder, align, write_sequence}
use Rattle.bitstream_format.specs.Atoms as atom

-- Made by `./format` from formats/wav_format.fields: edit that file and make this one anew.

-- n bits after the first k
abbrev pub bits_at : ℕ → ℕ → List Bool → List Bool
bits_at k n bits = take n (drop k bits)

-- the case of a number
abbrev pub coding_of : ℕ → Coding
coding_of n = if n == 1 then Pcm else if n == 3 then Float else if n == 6 then ALaw else if n == 7 then MuLaw else if n
    == 65534 then Extensible else Other n

-- the number of a case
abbrev pub coding_number : Coding → ℕ
coding_number Pcm = 1
coding_number Float = 3
coding_number ALaw = 6
coding_number MuLaw = 7
coding_number Extensible = 65534
coding_number (Other n) = n

-- the read of a case
abbrev pub coding_read : Order → Decoder Coding
coding_read o = and_then (unsigned_decoder o 16 16) (λ v. pure (coding_of v))

-- the cases, by their numbers
abbrev pub coding_cases : PlainFormat Coding
coding_cases = open_cases 16 16 refl coding_of coding_number

-- the lines, in order
abbrev pub wav_format_lines : FormatParts WavFormat WavFormat (λ s. s)
wav_format_lines = do
  coding ← field coding_cases (λ s. s.coding)
  channels ← field (atom.unsigned 16 16 refl) (λ s. s.channels)
  sample_rate ← field (atom.unsigned 32 32 refl) (λ s. s.sample_rate)
  byte_rate ← field (atom.unsigned 32 32 refl) (λ s. s.byte_rate)
  block_size ← field (atom.unsigned 16 16 refl) (λ s. s.block_size)
  bits_per_sample ← field (atom.unsigned 16 16 refl) (λ s. s.bits_per_sample)
  done (record {
    coding = coding;
    channels = channels;
    sample_rate = sample_rate;
    byte_rate = byte_rate;
    block_size =
        block_size;
    bits_per_sample = bits_per_sample;
  })

-- the reads, in order
abbrev pub wav_format_decoder : Order → Decoder WavFormat
wav_format_decoder o = wav_format_lines.read o

-- the writes, in order
abbrev pub wav_format_writes : Order → WavFormat → List Encoder
wav_format_writes o value = wav_format_lines.write o value

-- each field fits its bits
pub record Fits (value : WavFormat) : Type 0 where
  pub coding : coding_number value.coding < 2 ^ 16
  pub coding_again : coding_of (coding_number value.coding) ≡ value.coding
  pub channels : value.channels < 2 ^ 16
  pub sample_rate : value.sample_rate < 2 ^ 32
  pub byte_rate : value.byte_rate < 2 ^ 32
  pub block_size : value.block_size < 2 ^ 16
  pub bits_per_sample : value.bits_per_sample < 2 ^ 16

-- the number of bits
abbrev pub wav_format_size : Order → WavFormat → ℕ
wav_format_size o value = 128

-- the format, with the facts that must fit by name
abbrev pub wav_format_format : PlainFormat WavFormat
wav_format_format = named Fits (format wav_format_lines (λ s. refl {a = s}))
    (λ s fits. fits.coding & fits.coding_again & fits.channels & fits.sample_rate & fits.byte_rate & fits.block_size &
    fits.bits_per_sample)

-- the bits of all fields, up to a whole byte
unfoldable pub wav_format_bits : WavFormat → List Bool
wav_format_bits value = write_sequence (wav_format_writes Low value ++ align ∷ []) 0

-- the fields in bits, each by its place
abbrev pub wav_format_at : List Bool → WavFormat
wav_format_at bits = record {
  coding = coding_of (number Low (bits_at 0 16 bits));
  channels = number Low (bits_at 16 16 bits);
  sample_rate = number Low (bits_at 32 32 bits);
  byte_rate = number Low (bits_at 64 32 bits);
  block_size = number Low (bits_at 96 16 bits);
  bits_per_sample = number Low (bits_at 112 16 bits);
}
