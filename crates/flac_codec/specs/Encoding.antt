-- A file that is encoded frame by frame: its start, and what each call appends.
use Rattle.std.specs.Prelude.{◌≡◌, ◌⊎◌, ℕ, ◌+◌, ◌-◌, ◌<◌, ◌≤◌, ◌^◌, ◌==◌, if◌then◌else◌, nat_lt, min, Bool, true, false, List, ◌++◌, length, ℤ, Result, Ok, Err}
use Rattle.std.specs.Global.{Vec}
use Rattle.std.specs.Int.NonZero.{non_zero_u8_get}
use Rattle.std.specs.List.{All}
use Rattle.bitstream_io.specs.Callers.{FitsSignedBits}
use Rattle.flac_codec.specs.Encodable.{count_of}
use Rattle.flac_codec.specs.File.{checked_frame_at, metadata_end}
use Rattle.flac_codec.specs.Frame.{IsFoundIn}
use Rattle.flac_codec.specs.Start.{start_at}
use Rattle.flac_codec.specs.StreamInfo.{Fits}
use Rattle.flac_codec.specs.declared.encode_error.EncodeError.{EncodeError}
use Rattle.flac_codec.specs.declared.encode_error.EncodeError.TheVariants.{OutOfMemory, Writer}
use Rattle.flac_codec.specs.declared.encoder.Encoder.{Encoder}
use Rattle.flac_codec.specs.declared.header.FrameHeader.{FrameHeader}
use Rattle.flac_codec.specs.declared.starting.MetadataBlock.{MetadataBlock}
use Rattle.flac_codec.specs.declared.stream_info.StreamInfo.{StreamInfo}

-- ---- the start

-- a block of metadata that can be written after STREAMINFO
abbrev pub IsBlockOfMetadata : MetadataBlock → Type 0
IsBlockOfMetadata block = (1 ≤ block.kind) × (block.kind < 127) × (length block.bytes.items < 2 ^ 24)

-- STREAMINFO and the blocks after it, with which a file can begin
pub record IsStart (info : StreamInfo) (blocks : List MetadataBlock) : Type 0 where
  pub fits : Fits info
  pub each : All IsBlockOfMetadata blocks

-- Bytes of blocks of metadata, with which the metadata ends. There are none of them after the last block.
abbrev pub EndsMetadata : Bool → List ℕ → Type 0
EndsMetadata done bytes =
    (n : ℕ) (more : List ℕ) → length (bytes ++ more) ≤ n → metadata_end n done (bytes ++ more) ≡ Ok more

-- bytes of a file up to its frames
abbrev pub IsStartOf : StreamInfo → List ℕ → Type 0
IsStartOf info bytes = (more : List ℕ) → start_at (bytes ++ more) ≡ Ok (info, more)

-- ---- frames

-- STREAMINFO of samples of the same form: as many channels, of as many bits, at the same rate
pub record IsLike (info other : StreamInfo) : Type 0 where
  pub rate : other.sample_rate ≡ info.sample_rate
  pub channels : non_zero_u8_get other.channels ≡ non_zero_u8_get info.channels
  pub bits : non_zero_u8_get other.bits_per_sample ≡ non_zero_u8_get info.bits_per_sample

-- bytes of frame `number` with these channels, in each file whose samples have the form that STREAMINFO states
abbrev pub IsFrameOf : StreamInfo → ℕ → List ℕ → List (List ℤ) → Type 0
IsFrameOf info number bytes channels =
    (header : FrameHeader) × (header.number ≡ number)
    × ((other : StreamInfo) → IsLike info other → IsFoundIn (checked_frame_at other) bytes (header, channels))

-- channels that can be frame `number` of a file
pub record IsNext (info : StreamInfo) (number : ℕ) (channels : List (Vec ℤ)) : Type 0 where
  pub within : non_zero_u8_get info.bits_per_sample ≤ 32
  pub few : number < 2 ^ 36
  pub count : length channels ≡ non_zero_u8_get info.channels
  pub eight : length channels ≤ 8
  pub some : 1 ≤ count_of channels
  pub most : count_of channels ≤ info.maximum_block_size
  pub whole : All (λ channel. length channel.items ≡ count_of channels) channels
  pub fit : All (λ channel. All (FitsSignedBits (non_zero_u8_get info.bits_per_sample)) channel.items) channels

-- ---- an encoder: what its calls state of it

-- the writer of an encoder
abbrev pub writer_of : {W : Type 0} → Encoder W → W
writer_of encoder = encoder.writer

-- STREAMINFO that an encoder wrote
abbrev pub info_of : {W : Type 0} → Encoder W → StreamInfo
info_of encoder = encoder.info

-- the number of frames that an encoder wrote
abbrev pub frames_of : {W : Type 0} → Encoder W → ℕ
frames_of encoder = encoder.frames

-- the number of samples per channel that an encoder wrote, at most 2^64 - 1
abbrev pub samples_of : {W : Type 0} → Encoder W → ℕ
samples_of encoder = encoder.samples

-- the size of the smallest frame that an encoder wrote, as STREAMINFO states it, or 0 before the first one
abbrev pub smallest_of : {W : Type 0} → Encoder W → ℕ
smallest_of encoder = encoder.smallest

-- the size of the largest frame that an encoder wrote, as STREAMINFO states it, or 0 before the first one
abbrev pub largest_of : {W : Type 0} → Encoder W → ℕ
largest_of encoder = encoder.largest

-- an encoder accepts another frame
abbrev pub is_open : {W : Type 0} → Encoder W → Bool
is_open encoder = encoder.is_open

-- an encoder after its writer failed: no frame follows, and only what the writer holds may differ too
abbrev pub stopped : {W : Type 0} → W → Encoder W → Encoder W
stopped writer encoder = record encoder { writer = writer; is_open = false }

-- the number of samples per channel after a frame of `count` samples that was written, or after a failure
abbrev pub samples_after_write : Result ℕ EncodeError → ℕ → ℕ → ℕ
samples_after_write (Ok size) count samples = min (samples + count) (2 ^ 64 - 1)
samples_after_write (Err error) count samples = samples

-- the size of the smallest frame after one of `size` bytes, as STREAMINFO states it
abbrev pub smaller : ℕ → ℕ → ℕ
smaller smallest size = if smallest == 0 then min size (2 ^ 24 - 1) else min smallest (min size (2 ^ 24 - 1))

-- An encoder accepts another frame after one of `count` samples that was written, or after a failure. No frame follows one
-- with fewer samples than the greatest block size.
abbrev pub open_after : Result ℕ EncodeError → ℕ → ℕ → Bool
open_after (Ok size) count greatest = count == greatest
open_after (Err OutOfMemory) count greatest = true
open_after (Err (Writer error)) count greatest = false

-- the number of samples as STREAMINFO states it, or 0 if it has no room for it
abbrev pub stated_total : ℕ → ℕ
stated_total samples = if nat_lt samples (2 ^ 36) then samples else 0

-- what an error leaves: one thing if memory was refused, and another if the writer failed
abbrev pub OnFailure : EncodeError → Type 0 → Type 0 → Type 0
OnFailure OutOfMemory memory writer = memory
OnFailure (Writer error) memory writer = writer

-- a number, or 0 for one that is stated elsewhere
abbrev pub IsZeroOr : ℕ → ℕ → Type 0
IsZeroOr number stated = (stated ≡ 0) ⊎ (stated ≡ number)
