-- The properties of all frames of a FLAC file (RFC 9639, 8.2).
use Rattle.media_messages.specs.declared.flac_info.FlacInfo.{FlacInfo}
use Rattle.std.proofs.Common.{refl}
use Rattle.bitstream_format.specs.Format.{◌>>=◌, Plain as PlainFormat, Parts as FormatParts, format, named, field, ◌&◌, done}
use Rattle.std.specs.Prelude.{◌≡◌, ◌^◌, ◌<◌, ◌-◌, ◌++◌, ◌∷◌, [], ℕ, Bool, List, length, take, drop}
use Rattle.std.specs.List.{All}
use Rattle.std.specs.Int.NonZero.{non_zero_u8_get}
use Rattle.bitstream_io.specs.Callers.{Decoder, Encoder, Order, High, number, bytes_of, align, write_sequence, non_zero_u8}
use Rattle.bitstream_format.specs.Atoms as atom

-- Made by `./format` from formats/flac_info.fields: edit that file and make this one anew.

-- n bits after the first k
abbrev pub bits_at : ℕ → ℕ → List Bool → List Bool
bits_at k n bits = take n (drop k bits)

-- the lines, in order
abbrev pub flac_info_lines : FormatParts FlacInfo FlacInfo (λ s. s)
flac_info_lines = do
  minimum_block_size ← field (atom.unsigned 16 16 refl) (λ s. s.minimum_block_size)
  maximum_block_size ← field (atom.unsigned 16 16 refl) (λ s. s.maximum_block_size)
  minimum_frame_size ← field (atom.unsigned 32 24 refl) (λ s. s.minimum_frame_size)
  maximum_frame_size ← field (atom.unsigned 32 24 refl) (λ s. s.maximum_frame_size)
  sample_rate ← field (atom.unsigned 32 20 refl) (λ s. s.sample_rate)
  channels ← field (atom.non_zero_u8 3 refl refl) (λ s. s.channels)
  bits_per_sample ← field (atom.non_zero_u8 5 refl refl) (λ s. s.bits_per_sample)
  total_samples ← field (atom.unsigned 64 36 refl) (λ s. s.total_samples)
  checksum ← field (atom.bytes 16) (λ s. s.checksum)
  done (record {
    minimum_block_size = minimum_block_size;
    maximum_block_size = maximum_block_size;
    minimum_frame_size =
        minimum_frame_size;
    maximum_frame_size = maximum_frame_size;
    sample_rate = sample_rate;
    channels = channels;
    bits_per_sample = bits_per_sample;
    total_samples = total_samples;
    checksum = checksum;
  })

-- the reads, in order
abbrev pub flac_info_decoder : Order → Decoder FlacInfo
flac_info_decoder o = flac_info_lines.read o

-- the writes, in order
abbrev pub flac_info_writes : Order → FlacInfo → List Encoder
flac_info_writes o value = flac_info_lines.write o value

-- each field fits its bits
pub record Fits (value : FlacInfo) : Type 0 where
  pub minimum_block_size : value.minimum_block_size < 2 ^ 16
  pub maximum_block_size : value.maximum_block_size < 2 ^ 16
  pub minimum_frame_size : value.minimum_frame_size < 2 ^ 24
  pub maximum_frame_size : value.maximum_frame_size < 2 ^ 24
  pub sample_rate : value.sample_rate < 2 ^ 20
  pub channels : non_zero_u8_get value.channels - 1 < 2 ^ 3
  pub bits_per_sample : non_zero_u8_get value.bits_per_sample - 1 < 2 ^ 5
  pub total_samples : value.total_samples < 2 ^ 36
  pub checksum_count : length value.checksum ≡ 16
  pub checksum : All (λ b. b < 256) value.checksum

-- the number of bits
abbrev pub flac_info_size : Order → FlacInfo → ℕ
flac_info_size o value = 272

-- the format, with the facts that must fit by name
abbrev pub flac_info_format : PlainFormat FlacInfo
flac_info_format = named Fits (format flac_info_lines (λ s. refl {a = s}))
    (λ s fits. fits.minimum_block_size & fits.maximum_block_size & fits.minimum_frame_size & fits.maximum_frame_size &
    fits.sample_rate & fits.channels & fits.bits_per_sample & fits.total_samples & fits.checksum_count &
    fits.checksum)

-- the bits of all fields, up to a whole byte
unfoldable pub flac_info_bits : FlacInfo → List Bool
flac_info_bits value = write_sequence (flac_info_writes High value ++ align ∷ []) 0

-- the fields in bits, each by its place
abbrev pub flac_info_at : List Bool → FlacInfo
flac_info_at bits = record {
  minimum_block_size = number High (bits_at 0 16 bits);
  maximum_block_size = number High (bits_at 16 16 bits);
  minimum_frame_size = number High (bits_at 32 24 bits);
  maximum_frame_size = number High (bits_at 56 24 bits);
  sample_rate = number High (bits_at 80 20 bits);
  channels = non_zero_u8 (number High (bits_at 100 3 bits));
  bits_per_sample = non_zero_u8 (number High (bits_at 103 5 bits));
  total_samples = number High (bits_at 108 36 bits);
  checksum = bytes_of High 16 (bits_at 144 128 bits);
}
