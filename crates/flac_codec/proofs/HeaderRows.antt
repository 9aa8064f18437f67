-- Headers of frames from outside: those of the examples of RFC 9639 (appendix D), and codes that are refused.
use Rattle.std.proofs.Common.{◌≡◌, [], ◌∷◌, ℕ, Bool, true, false, Ok, Err, refl}
use Rattle.bitstream_io.specs.Callers.{High, bits}
use Rattle.bitstream_io.specs.Codec.{Done, and_then}
use Rattle.bitstream_io.specs.ReadTable.{const_decoder, unary_decoder, unsigned_decoder}
use Rattle.bitstream_io.specs.Word.{digits, digits_number}
use Rattle.flac_codec.specs.Checksum.{crc8, times_power, with_bytes}
use Rattle.flac_codec.specs.Header.{header_decoder}
use Rattle.flac_codec.specs.declared.error.FlacError.TheVariants.{NoSync, ReservedBit, ReservedBlockSize, ForbiddenBlockSize, ForbiddenSampleRate, ReservedChannels, ReservedSampleSize, NotCoded, LongCoded}
use Rattle.flac_codec.specs.declared.header.Channels.{Channels}
use Rattle.flac_codec.specs.declared.header.Channels.TheVariants.{Independent, MidSide, SideRight}
use Rattle.flac_codec.specs.declared.header.FrameHeader.{FrameHeader}

header : Bool → ℕ → ℕ → Channels → ℕ → ℕ → FrameHeader
header variable block_size sample_rate channels sample_size number = record {
  variable = variable;
  block_size = block_size;
  sample_rate = sample_rate;
  channels = channels;
  sample_size = sample_size;
  number = number;
}

-- a block of one sample in two channels of 16 bits, at 44.1 kHz
rfc_first : ((header_decoder High).reads 0 (bits High (0xff ∷ 0xf8 ∷ 0x69 ∷ 0x18 ∷ 0x00 ∷ 0x00 ∷ 0xbf ∷ []))
    ≡ Done 48 (Ok (Ok (header false 1 44100 (Independent 2) 16 0))))
    × (crc8 (0xff ∷ 0xf8 ∷ 0x69 ∷ 0x18 ∷ 0x00 ∷ 0x00 ∷ []) ≡ 0xbf)
unfolding and_then const_decoder unary_decoder unsigned_decoder digits digits_number header times_power with_bytes
rfc_first = (refl, refl)

-- 16 samples, the difference and the right channel
rfc_second : ((header_decoder High).reads 0 (bits High (0xff ∷ 0xf8 ∷ 0x69 ∷ 0x98 ∷ 0x00 ∷ 0x0f ∷ 0x99 ∷ []))
    ≡ Done 48 (Ok (Ok (header false 16 44100 SideRight 16 0))))
    × (crc8 (0xff ∷ 0xf8 ∷ 0x69 ∷ 0x98 ∷ 0x00 ∷ 0x0f ∷ []) ≡ 0x99)
unfolding and_then const_decoder unary_decoder unsigned_decoder digits digits_number header times_power with_bytes
rfc_second = (refl, refl)

-- the second frame, of 3 samples
rfc_third : ((header_decoder High).reads 0 (bits High (0xff ∷ 0xf8 ∷ 0x69 ∷ 0x18 ∷ 0x01 ∷ 0x02 ∷ 0xa4 ∷ []))
    ≡ Done 48 (Ok (Ok (header false 3 44100 (Independent 2) 16 1))))
    × (crc8 (0xff ∷ 0xf8 ∷ 0x69 ∷ 0x18 ∷ 0x01 ∷ 0x02 ∷ []) ≡ 0xa4)
unfolding and_then const_decoder unary_decoder unsigned_decoder digits digits_number header times_power with_bytes
rfc_third = (refl, refl)

-- 24 samples of 8 bits in one channel, at 32 kHz
rfc_fourth : ((header_decoder High).reads 0 (bits High (0xff ∷ 0xf8 ∷ 0x68 ∷ 0x02 ∷ 0x00 ∷ 0x17 ∷ 0xe9 ∷ []))
    ≡ Done 48 (Ok (Ok (header false 24 32000 (Independent 1) 8 0))))
    × (crc8 (0xff ∷ 0xf8 ∷ 0x68 ∷ 0x02 ∷ 0x00 ∷ 0x17 ∷ []) ≡ 0xe9)
unfolding and_then const_decoder unary_decoder unsigned_decoder digits digits_number header times_power with_bytes
rfc_fourth = (refl, refl)

-- a block size in 16 bits, a sample rate in tens of Hz, and a number of two bytes as U+00E9 has in UTF-8
by_hand : (header_decoder High).reads 0 (bits High (0xff ∷ 0xf9 ∷ 0x7e ∷ 0xac ∷ 0xc3 ∷ 0xa9 ∷ 0x11 ∷ 0x21 ∷ 0x4b ∷ 0x00 ∷ []))
    ≡ Done 80 (Ok (Ok (header true 4386 192000 MidSide 24 0xe9)))
unfolding and_then const_decoder unary_decoder unsigned_decoder digits digits_number header
by_hand = refl

-- what is refused: another sync code, a last bit 1, the reserved and forbidden codes, a block of 65536 samples, a first byte of the number
-- 0b10.., and one byte more than the number needs
refused :
    ((header_decoder High).reads 0 (bits High (0xff ∷ 0xfa ∷ [])) ≡ Done 15 (Ok (Err NoSync)))
    × ((header_decoder High).reads 0 (bits High (0xff ∷ 0xf8 ∷ 0x69 ∷ 0x19 ∷ [])) ≡ Done 32 (Ok (Err ReservedBit)))
    × ((header_decoder High).reads 0 (bits High (0xff ∷ 0xf8 ∷ 0x69 ∷ 0xb8 ∷ [])) ≡ Done 32 (Ok (Err ReservedChannels)))
    × ((header_decoder High).reads 0 (bits High (0xff ∷ 0xf8 ∷ 0x69 ∷ 0x16 ∷ [])) ≡ Done 32 (Ok (Err ReservedSampleSize)))
    × ((header_decoder High).reads 0 (bits High (0xff ∷ 0xf8 ∷ 0x09 ∷ 0x18 ∷ 0x00 ∷ [])) ≡ Done 40 (Ok (Err ReservedBlockSize)))
    × ((header_decoder High).reads 0 (bits High (0xff ∷ 0xf8 ∷ 0x79 ∷ 0x18 ∷ 0x00 ∷ 0xff ∷ 0xff ∷ [])) ≡ Done 56 (Ok (Err ForbiddenBlockSize)))
    × ((header_decoder High).reads 0 (bits High (0xff ∷ 0xf8 ∷ 0xcf ∷ 0x18 ∷ 0x00 ∷ [])) ≡ Done 40 (Ok (Err ForbiddenSampleRate)))
    × ((header_decoder High).reads 0 (bits High (0xff ∷ 0xf8 ∷ 0xc9 ∷ 0x18 ∷ 0x80 ∷ [])) ≡ Done 34 (Ok (Err NotCoded)))
    × ((header_decoder High).reads 0 (bits High (0xff ∷ 0xf8 ∷ 0xc9 ∷ 0x18 ∷ 0xc0 ∷ 0x80 ∷ [])) ≡ Done 48 (Ok (Err LongCoded)))
unfolding and_then const_decoder unary_decoder unsigned_decoder digits digits_number
refused = (refl, refl, refl, refl, refl, refl, refl, refl, refl)
