-- Worked rows of types that own memory: bytes that another program wrote, or made by hand, against their definitions.
use Rattle.std.specs.Prelude.{◌≡◌, ℕ, List, [], ◌∷◌, Ok, refl}
use Rattle.bitstream_io.specs.Callers.{High, bits}
use Rattle.bitstream_io.specs.Codec.{Done, and_then}
use Rattle.bitstream_io.specs.Grows.{parts_decoder}
use Rattle.bitstream_io.specs.ReadTable.{unsigned_decoder}
use Rattle.bitstream_io.specs.Word.{digits, digits_number}
use Rattle.bitstream_callers.specs.ParameterSet.{set_reads}
use Rattle.bitstream_callers.specs.VorbisComment.{comment_bytes}
use Rattle.bitstream_callers.specs.VorbisTexts.{Comment}

-- ---- the comment of a file that `flac` 1.4.2 wrote with three texts

block : List ℕ
block =
    32 ∷ 0 ∷ 0 ∷ 0 ∷ 114 ∷ 101 ∷ 102 ∷ 101 ∷ 114 ∷ 101 ∷ 110 ∷ 99 ∷ 101 ∷ 32 ∷ 108 ∷ 105 ∷ 98 ∷ 70 ∷ 76 ∷ 65 ∷ 67 ∷
    32 ∷ 49 ∷ 46 ∷ 52 ∷ 46 ∷ 50 ∷ 32 ∷ 50 ∷ 48 ∷ 50 ∷ 50 ∷ 49 ∷ 48 ∷ 50 ∷ 50 ∷ 3 ∷ 0 ∷ 0 ∷ 0 ∷ 14 ∷ 0 ∷ 0 ∷ 0 ∷ 84 ∷
    73 ∷ 84 ∷ 76 ∷ 69 ∷ 61 ∷ 80 ∷ 114 ∷ 195 ∷ 169 ∷ 108 ∷ 117 ∷ 100 ∷ 101 ∷ 17 ∷ 0 ∷ 0 ∷ 0 ∷ 65 ∷ 82 ∷ 84 ∷ 73 ∷ 83
    ∷ 84 ∷ 61 ∷ 74 ∷ 46 ∷ 32 ∷ 83 ∷ 46 ∷ 32 ∷ 66 ∷ 97 ∷ 99 ∷ 104 ∷ 9 ∷ 0 ∷ 0 ∷ 0 ∷ 68 ∷ 65 ∷ 84 ∷ 69 ∷ 61 ∷ 49 ∷ 55
    ∷ 49 ∷ 55 ∷ []

comment : Comment
comment = record {
  vendor =
      114 ∷ 101 ∷ 102 ∷ 101 ∷ 114 ∷ 101 ∷ 110 ∷ 99 ∷ 101 ∷ 32 ∷ 108 ∷ 105 ∷ 98 ∷ 70 ∷ 76 ∷ 65 ∷ 67 ∷ 32 ∷ 49 ∷ 46 ∷
      52 ∷ 46 ∷ 50 ∷ 32 ∷ 50 ∷ 48 ∷ 50 ∷ 50 ∷ 49 ∷ 48 ∷ 50 ∷ 50 ∷ [];
  comments =
      (84 ∷ 73 ∷ 84 ∷ 76 ∷ 69 ∷ 61 ∷ 80 ∷ 114 ∷ 195 ∷ 169 ∷ 108 ∷ 117 ∷ 100 ∷ 101 ∷ []) ∷
      (65 ∷ 82 ∷ 84 ∷ 73 ∷ 83 ∷ 84 ∷ 61 ∷ 74 ∷ 46 ∷ 32 ∷ 83 ∷ 46 ∷ 32 ∷ 66 ∷ 97 ∷ 99 ∷ 104 ∷ []) ∷
      (68 ∷ 65 ∷ 84 ∷ 69 ∷ 61 ∷ 49 ∷ 55 ∷ 49 ∷ 55 ∷ []) ∷ [];
}

comment_there : comment_bytes comment ≡ block
unfolding comment block digits
comment_there = refl

-- ---- a parameter set of two points

set_there : (set_reads High).reads 0 (bits High (162 ∷ 15 ∷ 52 ∷ 213 ∷ 231 ∷ 192 ∷ [])) ≡ Done 42 (Ok (Ok (record {
  profile = 5;
  points = record { layers = 243; level = 9 } ∷ record { layers = 2748; level = 31 } ∷ [];
})))
unfolding and_then parts_decoder unsigned_decoder digits digits_number
set_there = refl
