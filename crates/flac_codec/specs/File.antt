-- A file (RFC 9639, sections 6, 8 and 9): the marker, blocks of metadata of which the first is STREAMINFO, and frames up to
-- the end.
use Rattle.std.specs.Prelude.{ℕ, zero, suc, ◌+◌, ◌*◌, ◌%◌, ◌==◌, ◌&&◌, nat_le, nat_lt, if◌then◌else◌, Bool, true, false, List, [], ◌∷◌, ◌++◌, length, take, drop, get_or, ℤ, Result, Ok, Err}
use Rattle.std.specs.Int.NonZero.{non_zero_u8_get}
use Rattle.std.specs.List.{flat_map}
use Rattle.bitstream_io.specs.Callers.{bits, sure_answer, EndOfInput, Error, High}
use Rattle.flac_codec.specs.Channels.{channel_count}
use Rattle.flac_codec.specs.Frame.{after, frame_at, width_of}
use Rattle.flac_codec.specs.StreamInfo.{stream_info_decoder}
use Rattle.flac_codec.specs.declared.error.FlacError.{FlacError}
use Rattle.flac_codec.specs.declared.error.FlacError.TheVariants.{Reader, NoFlac, NoStreamInfo, OtherChannels, OtherSampleSize, OtherSampleRate, OtherSampleCount}
use Rattle.flac_codec.specs.declared.file.FileHeader.{FileHeader}
use Rattle.flac_codec.specs.declared.header.FrameHeader.{FrameHeader}
use Rattle.flac_codec.specs.declared.metadata.Metadata.{Metadata}
use Rattle.flac_codec.specs.declared.stream_info.StreamInfo.{StreamInfo}

-- ---- metadata (section 8)

-- a byte, or 0 after the end
abbrev pub byte_at : List ℕ → ℕ → ℕ
byte_at bytes n = get_or bytes n 0

-- the first bytes are `fLaC`
abbrev pub has_marker : List ℕ → Bool
has_marker bytes =
    if nat_lt (length bytes) 4 then false
    else (byte_at bytes 0 == 0x66) && ((byte_at bytes 1 == 0x4c) && ((byte_at bytes 2 == 0x61) && (byte_at bytes 3 == 0x43)))

-- the number of bytes of a block of metadata: a header of 4 bytes, of which three have the number of the others
abbrev pub metadata_size : List ℕ → ℕ
metadata_size bytes = 4 + 65536 * byte_at bytes 1 + 256 * byte_at bytes 2 + byte_at bytes 3

-- the block of metadata whose header is at the start of bytes
abbrev pub metadata_head : List ℕ → Metadata
metadata_head bytes = record {
  last = nat_le 128 (byte_at bytes 0);
  kind = byte_at bytes 0 % 128;
  size = metadata_size bytes;
}

-- there are n bytes
abbrev pub bytes_there : ℕ → List ℕ → Result (Unit {0}) FlacError
bytes_there n bytes = if nat_lt (length bytes) n then Err (Reader EndOfInput) else Ok tt

-- the block of metadata at the start of bytes
abbrev pub metadata_at : List ℕ → Result Metadata FlacError
metadata_at bytes =
    if nat_lt (length bytes) (metadata_size bytes) then Err (Reader EndOfInput) else Ok (metadata_head bytes)

-- an error of the reader, as one of the format
abbrev pub as_flac : {A : Type 0} → Result A Error → Result A FlacError
as_flac (Ok value) = Ok value
as_flac (Err error) = Err (Reader error)

-- STREAMINFO in the 34 bytes after the header of the block at the start of bytes
abbrev pub stream_info_in : List ℕ → Result StreamInfo FlacError
stream_info_in bytes = as_flac (sure_answer ((stream_info_decoder High).reads 0 (bits High (take 34 (drop 4 bytes)))))

-- the first block of metadata is a STREAMINFO of 34 bytes
abbrev pub is_stream_info : Metadata → Bool
is_stream_info block = (block.kind == 0) && (block.size == 38)

-- STREAMINFO, and whether its block is the last one of the metadata
abbrev pub info_at : List ℕ → Result (StreamInfo × Bool) FlacError
info_at bytes =
    if has_marker bytes then
    after (metadata_at (drop 4 bytes)) (λ block.
    if is_stream_info block then after (stream_info_in (drop 4 bytes)) (λ info. Ok (info, block.last)) else Err NoStreamInfo)
    else Err NoFlac

-- The bytes after the metadata, if the block before was the last one or not. A block has 4 bytes or more, so n is no limit
-- if it is the number of the bytes.
unfoldable pub metadata_end : ℕ → Bool → List ℕ → Result (List ℕ) FlacError
metadata_end n true bytes = Ok bytes
metadata_end zero false bytes = Err (Reader EndOfInput)
metadata_end (suc n) false bytes = after (metadata_at bytes) (λ block. metadata_end n block.last (drop block.size bytes))

-- ---- frames (section 9)

-- the samples of a second of a frame: those of its header, or of STREAMINFO
abbrev pub rate_of : ℕ → FrameHeader → ℕ
rate_of sample_rate header = if header.sample_rate == 0 then sample_rate else header.sample_rate

-- a frame has the channels, the bits and the rate of STREAMINFO
abbrev pub is_of_file : StreamInfo → FrameHeader → Result (Unit {0}) FlacError
is_of_file info header =
    let channels = non_zero_u8_get info.channels in
    let sample_size = non_zero_u8_get info.bits_per_sample in
    if channel_count header.channels == channels then
    (if width_of sample_size header == sample_size then
    (if rate_of info.sample_rate header == info.sample_rate then Ok tt
    else Err (OtherSampleRate (rate_of info.sample_rate header) info.sample_rate))
    else Err (OtherSampleSize (width_of sample_size header) sample_size))
    else Err (OtherChannels (channel_count header.channels) channels)

-- the frame at the start of bytes, which has the channels, the bits and the rate of STREAMINFO
abbrev pub checked_frame_at : StreamInfo → List ℕ → Result ((FrameHeader × List (List ℤ)) × ℕ) FlacError
checked_frame_at info bytes =
    after (frame_at (non_zero_u8_get info.bits_per_sample) bytes) (λ (frame, n).
    after (is_of_file info frame.0) (λ _. Ok (frame, n)))

-- the channels of the frame at the start of bytes, and the number of its bytes
abbrev pub block_at : StreamInfo → List ℕ → Result (List (List ℤ) × ℕ) FlacError
block_at info bytes =
    after (frame_at (non_zero_u8_get info.bits_per_sample) bytes) (λ (frame, n).
    after (is_of_file info frame.0) (λ _. Ok (frame.1, n)))

-- The channels of all frames, after those of the frames before. A frame has a byte or more, so n is no limit if it is the
-- number of the bytes.
unfoldable pub blocks_at : ℕ → StreamInfo → List ℕ → List (List (List ℤ)) → Result (List (List (List ℤ))) FlacError
blocks_at zero info bytes before = Ok before
blocks_at (suc n) info bytes before =
    if length bytes == 0 then Ok before
    else after (block_at info bytes) (λ (channels, size). blocks_at n info (drop size bytes) (before ++ channels ∷ []))

-- a channel of a file: that of each of its frames, one after another
abbrev pub channel_of : List (List (List ℤ)) → ℕ → List ℤ
channel_of blocks n = flat_map (λ block. get_or block n []) blocks

-- the channels of a file
unfoldable pub channels_of : List (List (List ℤ)) → ℕ → List (List ℤ)
channels_of blocks zero = []
channels_of blocks (suc n) = channels_of blocks n ++ channel_of blocks n ∷ []

-- the number of samples of the first channel
abbrev pub sample_count : List (List ℤ) → ℕ
sample_count channels = length (get_or channels 0 [])

-- the number of samples is that of STREAMINFO, where 0 is for a number that is not known
abbrev pub count_holds : StreamInfo → List (List ℤ) → Result (Unit {0}) FlacError
count_holds info channels =
    if info.total_samples == 0 then Ok tt
    else if sample_count channels == info.total_samples then Ok tt
    else Err (OtherSampleCount (sample_count channels) info.total_samples)

-- ---- a file

-- what STREAMINFO says of all samples
abbrev pub file_header : StreamInfo → FileHeader
file_header info = record {
  sample_rate = info.sample_rate;
  sample_size = non_zero_u8_get info.bits_per_sample;
  checksum = info.checksum;
}

-- the channels of frames up to the end
abbrev pub channels_at : StreamInfo → List ℕ → Result (List (List ℤ)) FlacError
channels_at info bytes =
    after (blocks_at (length bytes) info bytes []) (λ blocks. Ok (channels_of blocks (non_zero_u8_get info.channels)))

-- a file after its metadata
abbrev pub frames_at : StreamInfo → List ℕ → Result (FileHeader × List (List ℤ)) FlacError
frames_at info bytes =
    after (channels_at info bytes) (λ channels.
    after (count_holds info channels) (λ _. Ok (file_header info, channels)))

-- the file in bytes, which has all of them: its header and its channels
abbrev pub file_at : List ℕ → Result (FileHeader × List (List ℤ)) FlacError
file_at bytes =
    after (info_at bytes) (λ (info, last).
    after (metadata_end (length (drop 42 bytes)) last (drop 42 bytes)) (λ frames. frames_at info frames))
