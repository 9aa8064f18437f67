-- A file that is decoded frame by frame: what a call returns, and what it leaves.
use Rattle.std.specs.Prelude.{ℕ, ◌+◌, ◌-◌, ◌^◌, ◌==◌, if◌then◌else◌, Bool, true, false, List, length, map, min, ℤ, Option, None, Some, Result, Ok, Err}
use Rattle.bitstream_io.specs.Callers.{EndOfInput}
use Rattle.flac_codec.specs.File.{checked_frame_at, sample_count}
use Rattle.flac_codec.specs.Frame.{after}
use Rattle.flac_codec.specs.Input.{bytes_left}
use Rattle.flac_codec.specs.declared.decoder.Decoder.{Decoder}
use Rattle.flac_codec.specs.declared.error.FlacError.{FlacError}
use Rattle.flac_codec.specs.declared.error.FlacError.TheVariants.{OtherSampleCount, Reader}
use Rattle.flac_codec.specs.declared.frame.Frame.{Frame}
use Rattle.flac_codec.specs.declared.header.FrameHeader.{FrameHeader}
use Rattle.flac_codec.specs.declared.input.Input.{Input}
use Rattle.flac_codec.specs.declared.stream_info.StreamInfo.{StreamInfo}

-- the header of a frame, its channels, and the number of its bytes
abbrev pub frame_value : Frame → (FrameHeader × List (List ℤ)) × ℕ
frame_value frame = ((frame.header, map (λ channel. channel.items) frame.channels.items), frame.size)

-- the bytes ended inside a frame
abbrev pub is_cut : {A : Type 0} → Result A FlacError → Bool
is_cut (Err (Reader EndOfInput)) = true
is_cut result = false

-- the number of samples of a channel is that of STREAMINFO, where 0 is for a number that is not known
abbrev pub total_holds : StreamInfo → ℕ → Result (Unit {0}) FlacError
total_holds info samples =
    if info.total_samples == 0 then Ok tt
    else if samples == info.total_samples then Ok tt
    else Err (OtherSampleCount samples info.total_samples)

-- the next frame of a file with this STREAMINFO, or none at its end, after frames of `samples` samples of a channel
abbrev pub next_at : StreamInfo → ℕ → List ℕ → Result (Option ((FrameHeader × List (List ℤ)) × ℕ)) FlacError
next_at info samples bytes =
    if length bytes == 0 then after (total_holds info samples) (λ _. Ok None)
    else after (checked_frame_at info bytes) (λ frame. Ok (Some frame))

-- the number of bytes of the frame that was returned, or 0
abbrev pub size_of : Result (Option Frame) FlacError → ℕ
size_of (Ok (Some frame)) = frame.size
size_of (Ok None) = 0
size_of (Err error) = 0

-- the number of samples of a channel after a result, at most 2^64 - 1
abbrev pub samples_after : Result (Option Frame) FlacError → ℕ → ℕ
samples_after (Ok (Some frame)) samples =
    min (samples + sample_count (map (λ channel. channel.items) frame.channels.items)) (2 ^ 64 - 1)
samples_after (Ok None) samples = samples
samples_after (Err error) samples = samples

-- ---- a decoder: what its calls state of it

-- the STREAMINFO of the file
abbrev pub decoder_info : {R : Type 0} → Decoder R → StreamInfo
decoder_info decoder = decoder.info

-- the input of a decoder
abbrev pub decoder_input : {R : Type 0} → Decoder R → Input R
decoder_input decoder = decoder.input

-- the bytes left of the file, if they are known
abbrev pub decoder_left : {R : Type 0} → (R → Option (List ℕ)) → Decoder R → Option (List ℕ)
decoder_left remaining decoder = bytes_left remaining (decoder_input decoder)

-- the number of samples of a channel that were decoded, at most 2^64 - 1
abbrev pub decoder_samples : {R : Type 0} → Decoder R → ℕ
decoder_samples decoder = decoder.samples
