-- Frames from outside: those of the examples of RFC 9639 (appendix D), frames that `flac` wrote, and what is refused.
use Rattle.std.proofs.Common.{◌≡◌, [], ◌∷◌, ℕ, false, Ok, Err, pos, negsuc, refl}
use Rattle.bitstream_io.specs.Array.{items_decoder}
use Rattle.bitstream_io.specs.Callers.{EndOfInput}
use Rattle.bitstream_io.specs.Codec.{and_then}
use Rattle.bitstream_io.specs.Grows.{parts_decoder}
use Rattle.bitstream_io.specs.ReadTable.{const_decoder, signed_decoder, unary_decoder, unsigned_decoder}
use Rattle.bitstream_io.specs.Word.{digits, digits_number}
use Rattle.flac_codec.specs.Checksum.{times_power, with_bytes}
use Rattle.flac_codec.specs.Frame.{frame_at}
use Rattle.flac_codec.specs.declared.error.FlacError.TheVariants.{FrameChecksum, HeaderChecksum, Reader}
use Rattle.flac_codec.specs.declared.header.Channels.{Channels}
use Rattle.flac_codec.specs.declared.header.Channels.TheVariants.{Independent, LeftSide, MidSide, SideRight}
use Rattle.flac_codec.specs.declared.header.FrameHeader.{FrameHeader}

header : ℕ → Channels → ℕ → FrameHeader
header block_size channels number = record {
  variable = false;
  block_size = block_size;
  sample_rate = 44100;
  channels = channels;
  sample_size = 16;
  number = number;
}

-- the frame of the first example: wasted bits in both channels
rfc_first : frame_at 16 (0xff ∷ 0xf8 ∷ 0x69 ∷ 0x18 ∷ 0x00 ∷ 0x00 ∷ 0xbf ∷ 0x03 ∷ 0x58 ∷ 0xfd ∷ 0x03 ∷ 0x12 ∷ 0x8b ∷ 0xaa ∷ 0x9a ∷ [])
    ≡ Ok ((header 1 (Independent 2) 0, (pos 25588 ∷ []) ∷ (pos 10416 ∷ []) ∷ []), 15)
unfolding and_then const_decoder items_decoder parts_decoder signed_decoder unary_decoder unsigned_decoder digits digits_number header times_power with_bytes
rfc_first = refl

-- the first frame of the second example, and its samples as `flac -d` gives them: the difference and the right channel
rfc_side_right : frame_at 16 (0xff ∷ 0xf8 ∷ 0x69 ∷ 0x98 ∷ 0x00 ∷ 0x0f ∷ 0x99 ∷ 0x12 ∷ 0x08 ∷ 0x67 ∷ 0x01 ∷ 0x62 ∷ 0x3d ∷ 0x14 ∷ 0x42 ∷ 0x99 ∷ 0x8f ∷ 0x5d ∷ 0xf7 ∷ 0x0d ∷ 0x6f ∷ 0xe0 ∷ 0x0c ∷ 0x17 ∷ 0xca ∷ 0xeb ∷ 0x21 ∷ 0x00 ∷ 0x0e ∷ 0xe7 ∷ 0xa7 ∷ 0x7a ∷ 0x24 ∷ 0xa1 ∷ 0x59 ∷ 0x0c ∷ 0x12 ∷ 0x17 ∷ 0xb6 ∷ 0x03 ∷ 0x09 ∷ 0x7b ∷ 0x78 ∷ 0x4f ∷ 0xaa ∷ 0x9a ∷ 0x33 ∷ 0xd2 ∷ 0x85 ∷ 0xe0 ∷ 0x70 ∷ 0xad ∷ 0x5b ∷ 0x1b ∷ 0x48 ∷ 0x51 ∷ 0xb4 ∷ 0x01 ∷ 0x0d ∷ 0x99 ∷ 0xd2 ∷ 0xcd ∷ 0x1a ∷ 0x68 ∷ 0xf1 ∷ 0xe6 ∷ 0xb8 ∷ 0x10 ∷ [])
    ≡ Ok ((header 16 SideRight 0, (pos 10372 ∷ pos 18041 ∷ pos 14942 ∷ pos 17876 ∷ pos 15627 ∷ pos 17899 ∷ pos 16242 ∷ pos 18077 ∷ pos 16824 ∷ pos 18263 ∷ pos 17295 ∷ negsuc 14417 ∷ negsuc 15200 ∷ negsuc 14507 ∷ negsuc 15194 ∷ negsuc 14817 ∷ []) ∷ (pos 6070 ∷ pos 10545 ∷ pos 8743 ∷ pos 10449 ∷ pos 9143 ∷ pos 10463 ∷ pos 9502 ∷ pos 10569 ∷ pos 9840 ∷ pos 10680 ∷ pos 10113 ∷ negsuc 8427 ∷ negsuc 8894 ∷ negsuc 8475 ∷ negsuc 8895 ∷ negsuc 8652 ∷ []) ∷ []), 68)
unfolding and_then const_decoder items_decoder parts_decoder signed_decoder unary_decoder unsigned_decoder digits digits_number header times_power with_bytes
rfc_side_right = refl

-- a frame that `flac` wrote of known samples: the left channel and the difference
flac_left_side : frame_at 16 (0xff ∷ 0xf8 ∷ 0x69 ∷ 0x88 ∷ 0x00 ∷ 0x0f ∷ 0x3b ∷ 0x14 ∷ 0x00 ∷ 0x00 ∷ 0x03 ∷ 0xe9 ∷ 0x00 ∷ 0x90 ∷ 0xa8 ∷ 0x85 ∷ 0x44 ∷ 0x42 ∷ 0xa2 ∷ 0x15 ∷ 0x10 ∷ 0x48 ∷ 0x00 ∷ 0x00 ∷ 0x00 ∷ 0x84 ∷ 0x93 ∷ 0xa3 ∷ 0x09 ∷ 0x0c ∷ 0x54 ∷ 0x78 ∷ 0xd3 ∷ 0x81 ∷ [])
    ≡ Ok ((header 16 LeftSide 0, (pos 0 ∷ pos 1001 ∷ pos 2004 ∷ pos 3002 ∷ pos 4002 ∷ pos 5004 ∷ pos 6001 ∷ pos 7000 ∷ pos 8001 ∷ pos 9004 ∷ pos 10002 ∷ pos 11002 ∷ pos 12004 ∷ pos 13001 ∷ pos 14000 ∷ pos 15001 ∷ []) ∷ (pos 0 ∷ pos 997 ∷ pos 1999 ∷ pos 2996 ∷ pos 3998 ∷ pos 5000 ∷ pos 5997 ∷ pos 6999 ∷ pos 7996 ∷ pos 8998 ∷ pos 10000 ∷ pos 10997 ∷ pos 11999 ∷ pos 12996 ∷ pos 13998 ∷ pos 15000 ∷ []) ∷ []), 34)
unfolding and_then const_decoder items_decoder parts_decoder signed_decoder unary_decoder unsigned_decoder digits digits_number header times_power with_bytes
flac_left_side = refl

-- and one of the mean and the difference, some of which are odd
flac_middle_side : frame_at 16 (0xff ∷ 0xf8 ∷ 0x69 ∷ 0xa8 ∷ 0x00 ∷ 0x0f ∷ 0x78 ∷ 0x10 ∷ 0x02 ∷ 0xca ∷ 0x28 ∷ 0xeb ∷ 0xaf ∷ 0x27 ∷ 0xc7 ∷ 0xad ∷ 0x2c ∷ 0x61 ∷ 0x22 ∷ 0xd1 ∷ 0x67 ∷ 0x56 ∷ 0xe5 ∷ 0x8c ∷ 0x5c ∷ 0xa8 ∷ 0xe8 ∷ 0xc7 ∷ 0x9e ∷ 0xcc ∷ 0x75 ∷ 0xe8 ∷ 0xf3 ∷ 0x79 ∷ 0x04 ∷ 0x60 ∷ 0x50 ∷ 0xc9 ∷ 0xa7 ∷ 0xec ∷ 0xd0 ∷ 0x28 ∷ 0x31 ∷ 0x51 ∷ 0xb4 ∷ 0xed ∷ 0xfe ∷ 0x1c ∷ 0x6b ∷ 0x04 ∷ 0xa3 ∷ 0xb2 ∷ 0xd8 ∷ 0xe8 ∷ 0x19 ∷ 0x26 ∷ 0x2c ∷ 0xc6 ∷ 0x68 ∷ 0x29 ∷ 0x50 ∷ 0xc8 ∷ 0x21 ∷ [])
    ≡ Ok ((header 16 MidSide 0, (pos 493 ∷ pos 2387 ∷ negsuc 1236 ∷ pos 1097 ∷ pos 825 ∷ pos 1219 ∷ negsuc 1187 ∷ pos 1698 ∷ pos 198 ∷ pos 3177 ∷ negsuc 401 ∷ negsuc 420 ∷ pos 172 ∷ pos 1169 ∷ negsuc 531 ∷ pos 3975 ∷ []) ∷ (pos 4155 ∷ negsuc 664 ∷ negsuc 594 ∷ pos 49 ∷ pos 499 ∷ pos 1889 ∷ negsuc 1697 ∷ negsuc 2167 ∷ pos 720 ∷ pos 2035 ∷ pos 1056 ∷ pos 221 ∷ pos 320 ∷ negsuc 2310 ∷ negsuc 1147 ∷ pos 1629 ∷ []) ∷ []), 63)
unfolding and_then const_decoder items_decoder parts_decoder signed_decoder unary_decoder unsigned_decoder digits digits_number header times_power with_bytes
flac_middle_side = refl

-- the first frame with one bit of a checksum changed, with one bit of a sample changed, and without its last byte
refused :
    (frame_at 16 (0xff ∷ 0xf8 ∷ 0x69 ∷ 0x18 ∷ 0x00 ∷ 0x00 ∷ 0xbe ∷ 0x03 ∷ 0x58 ∷ 0xfd ∷ 0x03 ∷ 0x12 ∷ 0x8b ∷ 0xaa ∷ 0x9a ∷ []) ≡ Err HeaderChecksum)
    × (frame_at 16 (0xff ∷ 0xf8 ∷ 0x69 ∷ 0x18 ∷ 0x00 ∷ 0x00 ∷ 0xbf ∷ 0x03 ∷ 0x58 ∷ 0xfd ∷ 0x03 ∷ 0x12 ∷ 0x8b ∷ 0xaa ∷ 0x9b ∷ []) ≡ Err FrameChecksum)
    × (frame_at 16 (0xff ∷ 0xf8 ∷ 0x69 ∷ 0x18 ∷ 0x00 ∷ 0x00 ∷ 0xbf ∷ 0x03 ∷ 0x58 ∷ 0xfc ∷ 0x03 ∷ 0x12 ∷ 0x8b ∷ 0xaa ∷ 0x9a ∷ []) ≡ Err FrameChecksum)
    × (frame_at 16 (0xff ∷ 0xf8 ∷ 0x69 ∷ 0x18 ∷ 0x00 ∷ 0x00 ∷ 0xbf ∷ 0x03 ∷ 0x58 ∷ 0xfd ∷ 0x03 ∷ 0x12 ∷ 0x8b ∷ 0xaa ∷ []) ≡ Err (Reader EndOfInput))
unfolding and_then const_decoder items_decoder parts_decoder signed_decoder unary_decoder unsigned_decoder digits digits_number header times_power with_bytes
refused = (refl, refl, refl, refl)
