-- What the encoders of frames and of files require of their callers.
use Rattle.std.specs.Prelude.{◌≡◌, ◌<◌, ◌≤◌, ◌^◌, ℕ, List, length, map, ℤ}
use Rattle.std.specs.Global.{Vec}
use Rattle.std.specs.Int.NonZero.{non_zero_u8_get}
use Rattle.std.specs.List.{All}
use Rattle.bitstream_io.specs.Callers.{FitsSignedBits}
use Rattle.flac_codec.specs.Channels.{channel_count}
use Rattle.flac_codec.specs.File.{sample_count}
use Rattle.flac_codec.specs.Frame.{width_of}
use Rattle.flac_codec.specs.Header.{IsHeader}
use Rattle.flac_codec.specs.declared.file.FileHeader.{FileHeader}
use Rattle.flac_codec.specs.declared.header.FrameHeader.{FrameHeader}
use Rattle.flac_codec.specs.declared.stream_info.StreamInfo.{StreamInfo}

-- samples of a channel: as many, of this width
abbrev pub IsChannel : ℕ → ℕ → List ℤ → Type 0
IsChannel width size samples = (length samples ≡ size) × All (FitsSignedBits width) samples

-- a header and channels of a frame that can be encoded, in a file whose samples have `sample_size` bits
pub record IsFrame (sample_size : ℕ) (header : FrameHeader) (channels : List (Vec ℤ)) : Type 0 where
  pub valid : IsHeader header
  pub some : 1 ≤ width_of sample_size header
  pub within : width_of sample_size header ≤ 32
  pub count : length channels ≡ channel_count header.channels
  pub whole : All (λ channel. length channel.items ≡ header.block_size) channels
  pub fit : All (λ channel. All (FitsSignedBits (width_of sample_size header)) channel.items) channels

-- the number of samples of the first channel
abbrev pub count_of : List (Vec ℤ) → ℕ
count_of channels = sample_count (map (λ channel. channel.items) channels)

-- a header and channels of a file that can be encoded in frames of `block_size` samples
pub record IsFile (header : FileHeader) (block_size : ℕ) (channels : List (Vec ℤ)) : Type 0 where
  pub rate : 1 ≤ header.sample_rate
  pub slow : header.sample_rate < 2 ^ 20
  pub some : 4 ≤ header.sample_size
  pub within : header.sample_size ≤ 32
  pub block : 16 ≤ block_size
  pub one : 1 ≤ length channels
  pub eight : length channels ≤ 8
  pub short : count_of channels < 2 ^ 36
  pub whole : All (λ channel. length channel.items ≡ count_of channels) channels
  pub fit : All (λ channel. All (FitsSignedBits header.sample_size) channel.items) channels

-- STREAMINFO of a file whose samples have this number of bits, in this number of channels
pub record IsFormat (sample_size count : ℕ) (info : StreamInfo) : Type 0 where
  pub bits : non_zero_u8_get info.bits_per_sample ≡ sample_size
  pub channels : non_zero_u8_get info.channels ≡ count
