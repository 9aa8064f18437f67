-- Subframes from outside: bytes of RFC 9639 and of files that `flac` wrote, and the samples that are in them.
use Rattle.std.proofs.Common.{◌≡◌, ℕ, List, [], ◌∷◌, Ok, Err, drop, pos, negsuc, refl}
use Rattle.bitstream_io.specs.Callers.{High, bits}
use Rattle.bitstream_io.specs.Codec.{Done, and_then}
use Rattle.bitstream_io.specs.Array.{items_decoder}
use Rattle.bitstream_io.specs.Grows.{parts_decoder}
use Rattle.bitstream_io.specs.ReadTable.{const_decoder, signed_decoder, unary_decoder, unsigned_decoder}
use Rattle.bitstream_io.specs.Word.{digits, digits_number}
use Rattle.flac_codec.specs.Coded.{coded_decoder}
use Rattle.flac_codec.specs.Rice.{rice_decoder}
use Rattle.flac_codec.specs.Subframe.{subframe_decoder}
use Rattle.flac_codec.specs.declared.error.FlacError.TheVariants.{LongCoded, NotCoded, ReservedBit, TooManyWastedBits, ReservedSubframe, ReservedResidual, Partitions, ShortBlock}

rfc_verbatim : (subframe_decoder High 16 3).reads 0 (bits High (0x02 ∷ 0xc3 ∷ 0x82 ∷ 0xc4 ∷ 0x0b ∷ 0xc1 ∷ 0x4a ∷ []))
    ≡ Done 56 (Ok (Ok (negsuc 15485 ∷ negsuc 15348 ∷ negsuc 16053 ∷ [])))
unfolding and_then items_decoder parts_decoder signed_decoder unary_decoder unsigned_decoder digits digits_number
rfc_verbatim = refl

flac_constant : (subframe_decoder High 16 16).reads 0 (bits High (0x00 ∷ 0xff ∷ 0xf9 ∷ []))
    ≡ Done 24 (Ok (Ok (negsuc 6 ∷ negsuc 6 ∷ negsuc 6 ∷ negsuc 6 ∷ negsuc 6 ∷ negsuc 6 ∷ negsuc 6 ∷ negsuc 6 ∷ negsuc 6 ∷
    negsuc 6 ∷ negsuc 6 ∷ negsuc 6 ∷ negsuc 6 ∷ negsuc 6 ∷ negsuc 6 ∷ negsuc 6 ∷ [])))
unfolding and_then items_decoder parts_decoder signed_decoder unary_decoder unsigned_decoder digits digits_number
flac_constant = refl

flac_order0 : (subframe_decoder High 16 16).reads 0 (bits High (0x10 ∷ 0x02 ∷ 0x37 ∷ 0x88 ∷ 0x19 ∷ 0x05 ∷ 0xa3 ∷ 0x37 ∷ 0xcc ∷ 0x4f ∷ 0x92 ∷ 0x26 ∷ 0xbc ∷ 0x60 ∷
    0xca ∷ 0x96 ∷ 0x69 ∷ 0xb0 ∷ 0x4f ∷ 0x22 ∷ 0xe9 ∷ 0xd0 ∷ []))
    ≡ Done 173 (Ok (Ok (pos 94 ∷ negsuc 129 ∷ negsuc 258 ∷ pos 35 ∷ pos 223 ∷ negsuc 196 ∷ pos 114 ∷ negsuc 9 ∷ pos 188 ∷
    negsuc 65 ∷ pos 297 ∷ pos 77 ∷ pos 216 ∷ pos 158 ∷ negsuc 11 ∷ pos 157 ∷ [])))
unfolding and_then items_decoder parts_decoder signed_decoder unary_decoder unsigned_decoder digits digits_number
flac_order0 = refl

flac_order1 : (subframe_decoder High 16 16).reads 0 (bits High (0x12 ∷ 0xff ∷ 0xfe ∷ 0x00 ∷ 0x53 ∷ 0x04 ∷ 0xe7 ∷ 0xd0 ∷ 0x93 ∷ 0x0a ∷ 0x06 ∷ []))
    ≡ Done 87 (Ok (Ok (negsuc 1 ∷ negsuc 0 ∷ negsuc 2 ∷ pos 2 ∷ pos 0 ∷ pos 0 ∷ negsuc 1 ∷ negsuc 2 ∷ negsuc 2 ∷
    negsuc 2 ∷ pos 0 ∷ pos 1 ∷ negsuc 0 ∷ pos 3 ∷ pos 3 ∷ negsuc 2 ∷ [])))
unfolding and_then items_decoder parts_decoder signed_decoder unary_decoder unsigned_decoder digits digits_number
flac_order1 = refl

flac_order2 : (subframe_decoder High 16 16).reads 0 (bits High (0x14 ∷ 0x00 ∷ 0x01 ∷ 0x00 ∷ 0x01 ∷ 0x00 ∷ 0x44 ∷ 0x88 ∷ 0x55 ∷ 0x12 ∷ 0xc4 ∷ 0xb4 ∷ []))
    ≡ Done 95 (Ok (Ok (pos 1 ∷ pos 1 ∷ pos 4 ∷ pos 8 ∷ pos 14 ∷ pos 23 ∷ pos 32 ∷ pos 41 ∷ pos 50 ∷ pos 61 ∷ pos 73 ∷
    pos 84 ∷ pos 98 ∷ pos 113 ∷ pos 127 ∷ pos 142 ∷ [])))
unfolding and_then items_decoder parts_decoder signed_decoder unary_decoder unsigned_decoder digits digits_number
flac_order2 = refl

flac_order3 : (subframe_decoder High 16 16).reads 0 (bits High (0x16 ∷ 0xff ∷ 0xf7 ∷ 0xff ∷ 0xe6 ∷ 0xff ∷ 0xd2 ∷ 0x00 ∷ 0xea ∷ 0x8a ∷ 0x51 ∷ 0x24 ∷ 0xa9 ∷ 0x34 ∷
    0x4a ∷ 0x92 ∷ 0xa0 ∷ []))
    ≡ Done 132 (Ok (Ok (negsuc 8 ∷ negsuc 25 ∷ negsuc 45 ∷ negsuc 67 ∷ negsuc 90 ∷ negsuc 105 ∷ negsuc 107 ∷ negsuc 105 ∷
    negsuc 108 ∷ negsuc 111 ∷ negsuc 119 ∷ negsuc 131 ∷ negsuc 156 ∷ negsuc 189 ∷ negsuc 235 ∷
    negsuc 289 ∷ [])))
unfolding and_then items_decoder parts_decoder signed_decoder unary_decoder unsigned_decoder digits digits_number
flac_order3 = refl

flac_order4 : (subframe_decoder High 16 16).reads 0 (bits High (0x18 ∷ 0xff ∷ 0xfe ∷ 0xff ∷ 0xf9 ∷ 0xff ∷ 0xf0 ∷ 0xff ∷ 0xe4 ∷ 0x00 ∷ 0x02 ∷ 0x6a ∷ 0x25 ∷ 0x36 ∷ []))
    ≡ Done 111 (Ok (Ok (negsuc 1 ∷ negsuc 6 ∷ negsuc 15 ∷ negsuc 27 ∷ negsuc 39 ∷ negsuc 47 ∷ negsuc 47 ∷ negsuc 36 ∷
    negsuc 12 ∷ pos 24 ∷ pos 75 ∷ pos 140 ∷ pos 220 ∷ pos 316 ∷ pos 428 ∷ pos 556 ∷ [])))
unfolding and_then items_decoder parts_decoder signed_decoder unary_decoder unsigned_decoder digits digits_number
flac_order4 = refl

flac_partitions : (subframe_decoder High 16 16).reads 0 (bits High (0x10 ∷ 0x08 ∷ 0xa3 ∷ 0x18 ∷ 0x64 ∷ 0x49 ∷ 0x66 ∷ 0x9e ∷ 0xac ∷ 0xb1 ∷ 0xf9 ∷ 0xd5 ∷ 0xe1 ∷ 0xc2 ∷
    0x10 ∷ 0x7f ∷ 0x5c ∷ 0xf0 ∷ []))
    ≡ Done 141 (Ok (Ok (pos 0 ∷ pos 3 ∷ pos 5 ∷ pos 7 ∷ pos 9 ∷ pos 11 ∷ pos 13 ∷ pos 15 ∷ pos 300 ∷ negsuc 499 ∷ pos 700 ∷
    pos 900 ∷ negsuc 31 ∷ pos 5 ∷ pos 6 ∷ pos 7 ∷ [])))
unfolding and_then items_decoder parts_decoder signed_decoder unary_decoder unsigned_decoder digits digits_number
flac_partitions = refl

flac_five_bits : (subframe_decoder High 24 16).reads 0 (bits High (0x12 ∷ 0x00 ∷ 0x00 ∷ 0x00 ∷ 0x42 ∷ 0x8b ∷ 0x4e ∷ 0x89 ∷ 0x22 ∷ 0xe1 ∷ 0x92 ∷ 0xb0 ∷ 0xe7 ∷ 0xc3 ∷
    0x0d ∷ 0x01 ∷ 0x08 ∷ 0x12 ∷ 0x9d ∷ 0x24 ∷ 0x59 ∷ 0x1f ∷ 0xc3 ∷ 0x09 ∷ 0x96 ∷ 0x8c ∷ 0xa0 ∷ 0x93 ∷
    0x14 ∷ 0x79 ∷ 0xdc ∷ 0x1e ∷ 0xbb ∷ 0x08 ∷ 0x71 ∷ 0x4a ∷ 0x3d ∷ 0x00 ∷ 0xa6 ∷ 0x8c ∷ 0x10 ∷ 0xd6 ∷
    0xb0 ∷ 0x2a ∷ 0xea ∷ 0x49 ∷ 0x40 ∷ []))
    ≡ Done 371 (Ok (Ok (pos 0 ∷ pos 741001 ∷ pos 169508 ∷ pos 894112 ∷ pos 1693860 ∷ pos 2222913 ∷ pos 1627385 ∷
    pos 1227948 ∷ pos 2086381 ∷ pos 1461168 ∷ pos 1083844 ∷ pos 1878921 ∷ pos 1207944 ∷ pos 1839500 ∷
    pos 960137 ∷ pos 1724334 ∷ [])))
unfolding and_then items_decoder parts_decoder signed_decoder unary_decoder unsigned_decoder digits digits_number
flac_five_bits = refl

rfc_linear : (subframe_decoder High 8 24).reads 0 (bits High (0x44 ∷ 0x00 ∷ 0x4f ∷ 0x6f ∷ 0x31 ∷ 0x3d ∷ 0x10 ∷ 0x47 ∷ 0xd2 ∷ 0x27 ∷ 0xcb ∷ 0x6d ∷ 0x09 ∷ 0x08 ∷
    0x31 ∷ 0x45 ∷ 0x2b ∷ 0xdc ∷ 0x28 ∷ 0x22 ∷ 0x22 ∷ 0x80 ∷ []))
    ≡ Done 170 (Ok (Ok (pos 0 ∷ pos 79 ∷ pos 111 ∷ pos 78 ∷ pos 8 ∷ negsuc 60 ∷ negsuc 89 ∷ negsuc 67 ∷ negsuc 12 ∷
    pos 42 ∷ pos 67 ∷ pos 53 ∷ pos 13 ∷ negsuc 26 ∷ negsuc 45 ∷ negsuc 37 ∷ negsuc 11 ∷ pos 14 ∷
    pos 24 ∷ pos 19 ∷ pos 6 ∷ negsuc 3 ∷ negsuc 4 ∷ pos 0 ∷ [])))
unfolding and_then items_decoder parts_decoder signed_decoder unary_decoder unsigned_decoder digits digits_number
rfc_linear = refl

rfc_wasted : (subframe_decoder High 16 1).reads 0 (bits High (0x03 ∷ 0x58 ∷ 0xfd ∷ []))
    ≡ Done 24 (Ok (Ok (pos 25588 ∷ [])))
unfolding and_then items_decoder parts_decoder signed_decoder unary_decoder unsigned_decoder digits digits_number
rfc_wasted = refl

rfc_more_wasted : (subframe_decoder High 16 1).reads 0 (bits High (0x03 ∷ 0x12 ∷ 0x8b ∷ []))
    ≡ Done 24 (Ok (Ok (pos 10416 ∷ [])))
unfolding and_then items_decoder parts_decoder signed_decoder unary_decoder unsigned_decoder digits digits_number
rfc_more_wasted = refl

-- what is refused: a first bit 1, as many wasted bits as bits, a reserved type, three samples in two partitions, a reserved coding, and
-- three samples for a prediction from four
refused :
    ((subframe_decoder High 16 3).reads 0 (bits High (0x80 ∷ [])) ≡ Done 1 (Ok (Err ReservedBit)))
    × ((subframe_decoder High 4 1).reads 0 (bits High (0x03 ∷ 0x10 ∷ [])) ≡ Done 12 (Ok (Err TooManyWastedBits)))
    × ((subframe_decoder High 16 3).reads 0 (bits High (0x04 ∷ [])) ≡ Done 8 (Ok (Err ReservedSubframe)))
    × ((subframe_decoder High 16 3).reads 0 (bits High (0x10 ∷ 0x04 ∷ [])) ≡ Done 14 (Ok (Err Partitions)))
    × ((subframe_decoder High 16 3).reads 0 (bits High (0x10 ∷ 0x80 ∷ [])) ≡ Done 10 (Ok (Err ReservedResidual)))
    × ((subframe_decoder High 1 3).reads 0 (bits High (0x18 ∷ 0x00 ∷ 0x00 ∷ [])) ≡ Done 18 (Ok (Err ShortBlock)))
unfolding and_then items_decoder parts_decoder signed_decoder unary_decoder unsigned_decoder digits digits_number
refused = (refl, refl, refl, refl, refl, refl)

-- two bytes of the first residual of a file, with the parameter 1: `flac -a` tells -1, -2 and, behind another -1, 2
residual : List ℕ
residual = 0x77 ∷ 0x90 ∷ []

rice_numbers :
    ((rice_decoder High 1).reads 2 (drop 2 (bits High residual)) ≡ Done 2 (Ok (negsuc 0)))
    × ((rice_decoder High 1).reads 4 (drop 4 (bits High residual)) ≡ Done 3 (Ok (negsuc 1)))
    × ((rice_decoder High 1).reads 9 (drop 9 (bits High residual)) ≡ Done 4 (Ok (pos 2)))
unfolding residual and_then unary_decoder unsigned_decoder digits digits_number
rice_numbers = (refl, refl, refl)

-- characters in UTF-8: A, é, € and U+10348; and what UTF-8 does not have: 0 in two bytes, a later byte first, and no
-- later byte
coded_numbers :
    ((coded_decoder High).reads 0 (bits High (0x41 ∷ [])) ≡ Done 8 (Ok (Ok 0x41)))
    × ((coded_decoder High).reads 0 (bits High (0xc3 ∷ 0xa9 ∷ [])) ≡ Done 16 (Ok (Ok 0xe9)))
    × ((coded_decoder High).reads 0 (bits High (0xe2 ∷ 0x82 ∷ 0xac ∷ [])) ≡ Done 24 (Ok (Ok 0x20ac)))
    × ((coded_decoder High).reads 0 (bits High (0xf0 ∷ 0x90 ∷ 0x8d ∷ 0x88 ∷ [])) ≡ Done 32 (Ok (Ok 0x10348)))
    × ((coded_decoder High).reads 0 (bits High (0xc0 ∷ 0x80 ∷ [])) ≡ Done 16 (Ok (Err LongCoded)))
    × ((coded_decoder High).reads 0 (bits High (0x80 ∷ [])) ≡ Done 2 (Ok (Err NotCoded)))
    × ((coded_decoder High).reads 0 (bits High (0xc3 ∷ 0x29 ∷ [])) ≡ Done 10 (Ok (Err NotCoded)))
unfolding and_then const_decoder unary_decoder unsigned_decoder digits digits_number
coded_numbers = (refl, refl, refl, refl, refl, refl, refl)
