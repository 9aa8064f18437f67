-- A frame in bytes (RFC 9639, section 9): a header and its checksum, the channels up to a whole byte, and the checksum of
-- all its bytes before.
use Rattle.std.specs.Prelude.{◌≡◌, ◌⊎◌, ℕ, ◌+◌, ◌*◌, ◌/◌, ◌==◌, nat_lt, if◌then◌else◌, List, ◌++◌, length, take, drop, get_or, ℤ, Result, Ok, Err}
use Rattle.bitstream_io.specs.Codec.{Prefix, Incomplete, Done}
use Rattle.bitstream_io.specs.Callers.{bits, Decoder, EndOfInput, High, OutOfMemory}
use Rattle.flac_codec.specs.Channels.{channels_decoder}
use Rattle.flac_codec.specs.Checksum.{crc16, crc8}
use Rattle.flac_codec.specs.Header.{header_decoder}
use Rattle.flac_codec.specs.declared.error.FlacError.{FlacError}
use Rattle.flac_codec.specs.declared.error.FlacError.TheVariants.{Reader, HeaderChecksum, FrameChecksum}
use Rattle.flac_codec.specs.declared.header.FrameHeader.{FrameHeader}

-- ---- parts of bytes

-- a result and then another, made from its value; an error is kept
abbrev pub after : {A B : Type 0} → Result A FlacError → (A → Result B FlacError) → Result B FlacError
after (Ok value) next = next value
after (Err error) next = Err error

-- what a decoder returned, and the number of bytes of which it took bits
abbrev pub in_bytes : {A : Type 0} → Prefix (Result A FlacError) → Result (A × ℕ) FlacError
in_bytes Incomplete = Err (Reader EndOfInput)
in_bytes (Done n (Ok (Ok value))) = Ok (value, (n + 7) / 8)
in_bytes (Done n (Ok (Err error))) = Err error
in_bytes (Done n (Err error)) = Err (Reader error)

-- what a decoder finds at the start of bytes
abbrev pub found : {A : Type 0} → Decoder (Result A FlacError) → List ℕ → Result (A × ℕ) FlacError
found decoder bytes = in_bytes (decoder.reads 0 (bits High bytes))

-- the byte after the first n bytes is their CRC-8
abbrev pub crc8_holds : List ℕ → ℕ → Result (Unit {0}) FlacError
crc8_holds bytes n =
    if nat_lt n (length bytes)
    then (if crc8 (take n bytes) == get_or bytes n 0 then Ok tt else Err HeaderChecksum)
    else Err (Reader EndOfInput)

-- the two bytes after the first n bytes are their CRC-16, the high byte first
abbrev pub crc16_holds : List ℕ → ℕ → Result (Unit {0}) FlacError
crc16_holds bytes n =
    if nat_lt (n + 1) (length bytes)
    then (if crc16 (take n bytes) == 256 * get_or bytes n 0 + get_or bytes (n + 1) 0 then Ok tt else Err FrameChecksum)
    else Err (Reader EndOfInput)

-- ---- a frame

-- the header and its checksum at the start of bytes, and the number of their bytes
abbrev pub header_at : List ℕ → Result (FrameHeader × ℕ) FlacError
header_at bytes =
    after (found (header_decoder High) bytes) (λ (header, n). after (crc8_holds bytes n) (λ _. Ok (header, n + 1)))

-- the bits of a sample of a frame: those of its header, or of STREAMINFO
abbrev pub width_of : ℕ → FrameHeader → ℕ
width_of sample_size header = if header.sample_size == 0 then sample_size else header.sample_size

-- the channels of a frame behind its header, which has n bytes with its checksum
abbrev pub channels_at : ℕ → List ℕ → FrameHeader × ℕ → Result ((FrameHeader × List (List ℤ)) × ℕ) FlacError
channels_at sample_size bytes (header, n) =
    after (found (channels_decoder High header.channels (width_of sample_size header) header.block_size) (drop n bytes))
    (λ (channels, m). Ok ((header, channels), n + m))

-- the frame at the start of bytes of a file whose samples have `sample_size` bits: its header, its channels, and the number
-- of its bytes
abbrev pub frame_at : ℕ → List ℕ → Result ((FrameHeader × List (List ℤ)) × ℕ) FlacError
frame_at sample_size bytes =
    after (after (header_at bytes) (channels_at sample_size bytes)) (λ (frame, n).
    after (crc16_holds bytes n) (λ _. Ok (frame, n + 2)))

-- the result is that of a definition, or memory was refused
abbrev pub IsUnlessRefused : {A : Type 0} → Result A FlacError → Result A FlacError → Type 0
IsUnlessRefused meant result = (result ≡ meant) ⊎ (result ≡ Err (Reader OutOfMemory))

-- the result is that of a definition whatever bytes follow these, or these bytes end first, or memory was refused
abbrev pub IsWhateverFollows : {A : Type 0} → (List ℕ → Result A FlacError) → List ℕ → Result A FlacError → Type 0
IsWhateverFollows finds bytes result =
    ((more : List ℕ) → result ≡ finds (bytes ++ more))
    ⊎ ((result ≡ Err (Reader EndOfInput)) ⊎ (result ≡ Err (Reader OutOfMemory)))

-- at the start of these bytes a definition finds the value, in all of them, whatever follows them
abbrev pub IsFoundIn : {A : Type 0} → (List ℕ → Result (A × ℕ) FlacError) → List ℕ → A → Type 0
IsFoundIn finds bytes value = (more : List ℕ) → finds (bytes ++ more) ≡ Ok (value, length bytes)
