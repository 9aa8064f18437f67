-- A WAV file whose chunks are a format of 16 bytes and the samples.
use Rattle.media_messages.specs.declared.wav_file.WavFile.{WavFile}
use Rattle.media_messages.specs.declared.wav_file.WavFileError.{WavFileError}
use Rattle.media_messages.specs.declared.wav_file.WavFileError.TheVariants.{Reader, NoRiff, NoWave, NoFormat, OtherFormat, NoData, OtherRiff}
use Rattle.std.specs.Prelude.{◌≡◌, ◌^◌, ◌<◌, ◌+◌, ◌*◌, ◌++◌, ◌∷◌, [], ◌==◌, if◌then◌else◌, ℕ, Bool, List, Result, Ok, Err, length}
use Rattle.std.specs.List.{All}
use Rattle.bitstream_io.specs.Callers.{◌>>=◌, Decoder, Encoder, pure, Error, Order, Low, word, unsigned_decoder, const_decoder, vec_decoder, plain, unsigned, buffer, zeros, align, write_sequence}
use Rattle.bitstream_format.specs.Checks.{byte_count}
use Rattle.bitstream_format.specs.Summed.{lines_sum}
use Rattle.bitstream_format.specs.Stated.{stored_size}

-- Made by `./format` from formats/wav_file.fields: edit that file and make this one anew.

-- an error of the reader is one of the type's
abbrev pub becomes_wav_file : Error → WavFileError → Type 0
becomes_wav_file error own = own ≡ Reader error

-- the writes that the riff_bytes covers, in order
abbrev pub riff_bytes_writes : Order → WavFile → List Encoder
riff_bytes_writes o value =
    plain (word o 32 1179011410)
    ∷ zeros 32
    ∷ plain (word o 32 1163280727)
    ∷ plain (word o 32 544501094)
    ∷ plain (word o 32 16)
    ∷ unsigned o 16 16 value.tag
    ∷ unsigned o 16 16 value.channels
    ∷ unsigned o 32 32 value.rate
    ∷ unsigned o 32 32 value.byte_rate
    ∷ unsigned o 16 16 value.align
    ∷ unsigned o 16 16 value.bits
    ∷ plain (word o 32 1635017060)
    ∷ unsigned o 64 32 (length value.samples)
    ∷ buffer o value.samples
    ∷ []

-- the number of bytes of these lines
abbrev pub riff_bytes_sum : WavFile → ℕ
riff_bytes_sum value = lines_sum byte_count Low (riff_bytes_writes Low value)

-- the number that states these bytes, in units of 1
abbrev pub riff_number : WavFile → ℕ
riff_number value = stored_size 1 0 8 (riff_bytes_sum value)

-- the reads, in order, after 6 that may be refused
abbrev pub wav_file_decoder_6 : Order → ℕ → ℕ → ℕ → ℕ → ℕ → ℕ → ℕ → ℕ → List ℕ → Decoder (Result WavFile WavFileError)
wav_file_decoder_6 o stored_riff_bytes tag channels rate byte_rate align bits_ samples_bytes samples = pure (Ok (record {
  tag = tag;
  channels = channels;
  rate = rate;
  byte_rate = byte_rate;
  align = align;
  bits = bits_;
  samples = samples;
}))

-- the reads, in order, after 5 that may be refused
abbrev pub wav_file_decoder_5 : Order → ℕ → ℕ → ℕ → ℕ → ℕ → ℕ → ℕ → Decoder (Result WavFile WavFileError)
wav_file_decoder_5 o stored_riff_bytes tag channels rate byte_rate align bits_ = do
  samples_bytes ← unsigned_decoder o 64 32
  samples ← vec_decoder o samples_bytes
  if stored_riff_bytes == riff_number (record {
    tag = tag;
    channels = channels;
    rate = rate;
    byte_rate = byte_rate;
    align = align;
    bits = bits_;
    samples = samples;
  }) then wav_file_decoder_6 o stored_riff_bytes tag channels rate
      byte_rate align bits_ samples_bytes samples else pure (Err OtherRiff)

-- the reads, in order, after 4 that may be refused
abbrev pub wav_file_decoder_4 : Order → ℕ → Decoder (Result WavFile WavFileError)
wav_file_decoder_4 o stored_riff_bytes = do
  tag ← unsigned_decoder o 16 16
  channels ← unsigned_decoder o 16 16
  rate ← unsigned_decoder o 32 32
  byte_rate ← unsigned_decoder o 32 32
  align ← unsigned_decoder o 16 16
  bits_ ← unsigned_decoder o 16 16
  is_11 ← const_decoder o 32 1635017060
  if is_11 then wav_file_decoder_5 o stored_riff_bytes tag channels rate byte_rate align bits_ else pure (Err NoData)

-- the reads, in order, after 3 that may be refused
abbrev pub wav_file_decoder_3 : Order → ℕ → Decoder (Result WavFile WavFileError)
wav_file_decoder_3 o stored_riff_bytes = do
  is_4 ← const_decoder o 32 16
  if is_4 then wav_file_decoder_4 o stored_riff_bytes else pure (Err OtherFormat)

-- the reads, in order, after 2 that may be refused
abbrev pub wav_file_decoder_2 : Order → ℕ → Decoder (Result WavFile WavFileError)
wav_file_decoder_2 o stored_riff_bytes = do
  is_3 ← const_decoder o 32 544501094
  if is_3 then wav_file_decoder_3 o stored_riff_bytes else pure (Err NoFormat)

-- the reads, in order, after 1 that may be refused
abbrev pub wav_file_decoder_1 : Order → Decoder (Result WavFile WavFileError)
wav_file_decoder_1 o = do
  stored_riff_bytes ← unsigned_decoder o 64 32
  is_2 ← const_decoder o 32 1163280727
  if is_2 then wav_file_decoder_2 o stored_riff_bytes else pure (Err NoWave)

-- the reads, in order
abbrev pub wav_file_decoder : Order → Decoder (Result WavFile WavFileError)
wav_file_decoder o = do
  is_0 ← const_decoder o 32 1179011410
  if is_0 then wav_file_decoder_1 o else pure (Err NoRiff)

-- the writes, in order
abbrev pub wav_file_writes : Order → WavFile → List Encoder
wav_file_writes o value =
    plain (word o 32 1179011410)
    ∷ unsigned o 64 32 (riff_number value)
    ∷ plain (word o 32 1163280727)
    ∷ plain (word o 32 544501094)
    ∷ plain (word o 32 16)
    ∷ unsigned o 16 16 value.tag
    ∷ unsigned o 16 16 value.channels
    ∷ unsigned o 32 32 value.rate
    ∷ unsigned o 32 32 value.byte_rate
    ∷ unsigned o 16 16 value.align
    ∷ unsigned o 16 16 value.bits
    ∷ plain (word o 32 1635017060)
    ∷ unsigned o 64 32 (length value.samples)
    ∷ buffer o value.samples
    ∷ []

-- each field fits its bits
pub record Fits (value : WavFile) : Type 0 where
  pub stored_riff_bytes : riff_number value < 2 ^ 32
  pub tag : value.tag < 2 ^ 16
  pub channels : value.channels < 2 ^ 16
  pub rate : value.rate < 2 ^ 32
  pub byte_rate : value.byte_rate < 2 ^ 32
  pub align : value.align < 2 ^ 16
  pub bits_ : value.bits < 2 ^ 16
  pub samples_bytes : length value.samples < 2 ^ 32
  pub samples : All (λ b. b < 256) value.samples

-- the number of bits
abbrev pub wav_file_size : Order → WavFile → ℕ
wav_file_size o value = 352 + 8 * length value.samples

-- the bits of all fields, up to a whole byte
unfoldable pub wav_file_bits : WavFile → List Bool
wav_file_bits value = write_sequence (wav_file_writes Low value ++ align ∷ []) 0
