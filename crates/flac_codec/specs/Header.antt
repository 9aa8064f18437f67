-- The header of a frame (RFC 9639, section 9.1), without its checksum: its decoder, and the calls that write it.
use Rattle.std.specs.Prelude.{◌≡◌, ◌⊎◌, ⊤, ℕ, ◌+◌, ◌-◌, ◌*◌, ◌/◌, ◌%◌, ◌^◌, ◌<◌, ◌≤◌, ◌==◌, nat_lt, if◌then◌else◌, false, List, [], ◌∷◌, ◌++◌, get_or, Result, Ok, Err}
use Rattle.bitstream_io.specs.Callers.{Decoder, Encoder, ◌>>=◌, pure, bit_decoder, unsigned_decoder, part_then, Order, bit, unsigned}
use Rattle.flac_codec.specs.Coded.{coded_decoder, coded_writes}
use Rattle.flac_codec.specs.declared.error.FlacError.{FlacError}
use Rattle.flac_codec.specs.declared.error.FlacError.TheVariants.{NoSync, ReservedBit, ReservedBlockSize, ForbiddenBlockSize, ForbiddenSampleRate, ReservedChannels, ReservedSampleSize}
use Rattle.flac_codec.specs.declared.header.Channels.{Channels}
use Rattle.flac_codec.specs.declared.header.Channels.TheVariants.{Independent, LeftSide, SideRight, MidSide}
use Rattle.flac_codec.specs.declared.header.Codes.{Codes}
use Rattle.flac_codec.specs.declared.header.FrameHeader.{FrameHeader}

-- ---- the codes

-- the number of samples of a block, by the code; 0 where the code has none (section 9.1.1)
abbrev pub block_sizes : List ℕ
block_sizes =
    0 ∷ 192 ∷ 576 ∷ 1152 ∷ 2304 ∷ 4608 ∷ 0 ∷ 0 ∷ 256 ∷ 512 ∷ 1024 ∷ 2048 ∷ 4096 ∷ 8192 ∷ 16384 ∷ 32768 ∷ []

-- the number of samples of a second, by the code; 0 for that of STREAMINFO (section 9.1.2)
abbrev pub sample_rates : List ℕ
sample_rates =
    0 ∷ 88200 ∷ 176400 ∷ 192000 ∷ 8000 ∷ 16000 ∷ 22050 ∷ 24000 ∷ 32000 ∷ 44100 ∷ 48000 ∷ 96000 ∷ []

-- the bits of a sample, by the code; 0 for those of STREAMINFO, and for the reserved code 3 (section 9.1.4)
abbrev pub sample_sizes : List ℕ
sample_sizes = 0 ∷ 8 ∷ 12 ∷ 0 ∷ 16 ∷ 20 ∷ 24 ∷ 32 ∷ []

-- the channels of a code (section 9.1.3)
abbrev pub channels_of : ℕ → Result Channels FlacError
channels_of code =
    if nat_lt code 8 then Ok (Independent (code + 1))
    else if code == 8 then Ok LeftSide
    else if code == 9 then Ok SideRight
    else if code == 10 then Ok MidSide
    else Err ReservedChannels

-- the bits of a sample of a code
abbrev pub sample_size_of : ℕ → Result ℕ FlacError
sample_size_of code = if code == 3 then Err ReservedSampleSize else Ok (get_or sample_sizes code 0)

-- ---- the decoder

-- the codes after the sync code; the last bit is reserved
abbrev pub rest_of_codes_decoder : Order → Decoder (Result Codes FlacError)
rest_of_codes_decoder o = do
  variable ← bit_decoder
  block_size ← unsigned_decoder o 8 4
  sample_rate ← unsigned_decoder o 8 4
  channels ← unsigned_decoder o 8 4
  sample_size ← unsigned_decoder o 8 3
  reserved ← bit_decoder
  pure (if reserved then Err ReservedBit else Ok (record {
    variable = variable;
    block_size = block_size;
    sample_rate = sample_rate;
    channels = channels;
    sample_size = sample_size;
  }))

-- the first 32 bits: the sync code of 15 bits, and then codes
abbrev pub codes_decoder : Order → Decoder (Result Codes FlacError)
codes_decoder o = do
  sync ← unsigned_decoder o 16 15
  if sync == 0x7ffc then rest_of_codes_decoder o else pure (Err NoSync)

-- the block size of a code: the codes 6 and 7 are for a number that follows, less 1, in 8 or 16 bits (section 9.1.6)
abbrev pub block_size_decoder : Order → ℕ → Decoder (Result ℕ FlacError)
block_size_decoder o code =
    if code == 0 then pure (Err ReservedBlockSize)
    else if code == 6 then unsigned_decoder o 32 8 >>= (λ less. pure (Ok (less + 1)))
    else if code == 7 then unsigned_decoder o 32 16 >>= (λ less.
    if less == 65535 then pure (Err ForbiddenBlockSize) else pure (Ok (less + 1)))
    else pure (Ok (get_or block_sizes code 0))

-- the sample rate of a code: the codes 12 to 14 are for a number that follows, in kHz, in Hz or in tens of Hz
-- (section 9.1.7)
abbrev pub sample_rate_decoder : Order → ℕ → Decoder (Result ℕ FlacError)
sample_rate_decoder o code =
    if code == 12 then unsigned_decoder o 32 8 >>= (λ rate. pure (Ok (rate * 1000)))
    else if code == 13 then unsigned_decoder o 32 16 >>= (λ rate. pure (Ok rate))
    else if code == 14 then unsigned_decoder o 32 16 >>= (λ rate. pure (Ok (rate * 10)))
    else if code == 15 then pure (Err ForbiddenSampleRate)
    else pure (Ok (get_or sample_rates code 0))

-- the numbers after the codes
abbrev pub numbers_decoder : Order → Codes → Channels → ℕ → Decoder (Result FrameHeader FlacError)
numbers_decoder o codes channels sample_size =
    coded_decoder o >>= part_then (λ number.
    block_size_decoder o codes.block_size >>= part_then (λ block_size.
    sample_rate_decoder o codes.sample_rate >>= part_then (λ sample_rate.
    pure (Ok (record {
      variable = codes.variable;
      block_size = block_size;
      sample_rate = sample_rate;
      channels = channels;
      sample_size = sample_size;
      number = number;
    })))))

-- the header after its codes
abbrev pub coded_header_decoder : Order → Codes → Decoder (Result FrameHeader FlacError)
coded_header_decoder o codes =
    part_then (λ channels. part_then (numbers_decoder o codes channels) (sample_size_of codes.sample_size))
    (channels_of codes.channels)

-- a header
abbrev pub header_decoder : Order → Decoder (Result FrameHeader FlacError)
header_decoder o = codes_decoder o >>= part_then (coded_header_decoder o)

-- ---- what can be written

-- a sample rate that a header can say: in Hz, or in tens of Hz
abbrev pub IsSampleRate : ℕ → Type 0
IsSampleRate rate = (rate < 65536) ⊎ ((rate % 10 ≡ 0) × (rate < 655360))

-- the bits of a sample that a header can say, or 0 for those of STREAMINFO
abbrev pub IsSampleSize : ℕ → Type 0
IsSampleSize size =
    (size ≡ 0) ⊎ ((size ≡ 8) ⊎ ((size ≡ 12) ⊎ ((size ≡ 16) ⊎ ((size ≡ 20) ⊎ ((size ≡ 24) ⊎ (size ≡ 32))))))

-- one to eight channels
abbrev pub IsChannels : Channels → Type 0
IsChannels (Independent count) = (1 ≤ count) × (count ≤ 8)
IsChannels _ = ⊤

-- a header that can be written
pub record IsHeader (header : FrameHeader) : Type 0 where
  pub some : 1 ≤ header.block_size
  pub most : header.block_size < 65536
  pub rate : IsSampleRate header.sample_rate
  pub channels : IsChannels header.channels
  pub size : IsSampleSize header.sample_size
  pub number : header.number < 2 ^ 36

-- a code of a block size: its own, or that of a number that follows
abbrev pub IsBlockSizeCode : ℕ → ℕ → Type 0
IsBlockSizeCode size code =
    ((code < 16) × (get_or block_sizes code 0 ≡ size)) ⊎ (((code ≡ 6) × (size ≤ 256)) ⊎ (code ≡ 7))

-- a code of a sample rate: its own, or that of a number that follows
abbrev pub IsSampleRateCode : ℕ → ℕ → Type 0
IsSampleRateCode rate code =
    ((code < 12) × (get_or sample_rates code 0 ≡ rate))
    ⊎ (((code ≡ 12) × (rate % 1000 ≡ 0) × (rate < 256000))
    ⊎ (((code ≡ 13) × (rate < 65536)) ⊎ ((code ≡ 14) × (rate % 10 ≡ 0) × (rate < 655360))))

-- codes of a header
pub record AreCodes (header : FrameHeader) (codes : Codes) : Type 0 where
  pub variable : codes.variable ≡ header.variable
  pub block_size : IsBlockSizeCode header.block_size codes.block_size
  pub sample_rate : IsSampleRateCode header.sample_rate codes.sample_rate
  pub channels : channels_of codes.channels ≡ Ok header.channels
  pub sample_size : sample_size_of codes.sample_size ≡ Ok header.sample_size
  pub few : codes.channels < 16
  pub small : codes.sample_size < 8

-- ---- the calls that write

-- the sync code, the codes, and the reserved bit
abbrev pub codes_writes : Order → Codes → List Encoder
codes_writes o codes =
    unsigned o 16 15 0x7ffc ∷ bit codes.variable ∷ unsigned o 8 4 codes.block_size ∷ unsigned o 8 4 codes.sample_rate
    ∷ unsigned o 8 4 codes.channels ∷ unsigned o 8 3 codes.sample_size ∷ bit false ∷ []

-- the block size after the number, if its code says so
abbrev pub block_size_writes : Order → ℕ → ℕ → List Encoder
block_size_writes o code size =
    if code == 6 then unsigned o 32 8 (size - 1) ∷ []
    else if code == 7 then unsigned o 32 16 (size - 1) ∷ []
    else []

-- the sample rate after the block size, if its code says so
abbrev pub sample_rate_writes : Order → ℕ → ℕ → List Encoder
sample_rate_writes o code rate =
    if code == 12 then unsigned o 32 8 (rate / 1000) ∷ []
    else if code == 13 then unsigned o 32 16 rate ∷ []
    else if code == 14 then unsigned o 32 16 (rate / 10) ∷ []
    else []

-- a header with these codes
abbrev pub header_writes : Order → Codes → FrameHeader → List Encoder
header_writes o codes header =
    codes_writes o codes
    ++ (coded_writes o header.number
    ++ (block_size_writes o codes.block_size header.block_size
    ++ sample_rate_writes o codes.sample_rate header.sample_rate))
