-- Worked rows: bytes of the formats' own documents, or made by hand, against the callers' definitions.
use Rattle.std.specs.Prelude.{◌≡◌, ℕ, pos, negsuc, false, List, [], ◌∷◌, ◌++◌, drop, take, Ok, Err, refl}
use Rattle.std.specs.List.{flat_map}
use Rattle.bitstream_io.specs.Callers.{High, bits, align, write_sequence}
use Rattle.bitstream_io.specs.Codec.{Done, Incomplete, and_then}
use Rattle.bitstream_io.specs.ReadTable.{const_decoder, groups_decoder, signed_groups_decoder, unary_decoder, unsigned_decoder}
use Rattle.bitstream_io.specs.Tree.{path_decoder}
use Rattle.bitstream_io.specs.Array.{items_decoder}
use Rattle.bitstream_io.specs.Vbr.{groups, groups_at}
use Rattle.bitstream_io.specs.Word.{digits, digits_number}
use Rattle.bitstream_io.specs.WriteTable.{unsigned}
use Rattle.bitstream_io.specs.Golomb.{se_decoder, se_writes, ue_decoder, ue_writes}
use Rattle.bitstream_callers.specs.Samples.{samples_decoder, samples_writes}
use Rattle.bitstream_callers.specs.Sensor.{measurement_decoder, measurement_writes}
use Rattle.bitstream_callers.specs.Sps.{sps_decoder}
use Rattle.bitstream_callers.specs.declared.sensor.Measurement.{Measurement}
use Rattle.bitstream_callers.specs.declared.sensor.State.TheVariants.{Backward}
use Rattle.bitstream_callers.specs.declared.sps.Sps.{Sps}
use Rattle.bitstream_callers.specs.declared.sps.SpsError.TheVariants.{OtherUnit}

-- ---- Exp-Golomb numbers

-- the words 1, 010, 011, 00100, 0001000 and then 010, 011, 00100
golomb : List ℕ
golomb = 166 ∷ 65 ∷ 9 ∷ 144 ∷ []

golomb_numbers :
    (write_sequence (flat_map (ue_writes High) (0 ∷ 1 ∷ 2 ∷ 3 ∷ 7 ∷ [])
    ++ flat_map (se_writes High) (pos 1 ∷ negsuc 0 ∷ pos 2 ∷ []) ++ align ∷ []) 0 ≡ bits High golomb)
    × ((ue_decoder High).reads 0 (bits High golomb) ≡ Done 1 (Ok 0))
    × ((ue_decoder High).reads 12 (drop 12 (bits High golomb)) ≡ Done 7 (Ok 7))
    × ((se_decoder High).reads 22 (drop 22 (bits High golomb)) ≡ Done 3 (Ok (negsuc 0)))
    × ((se_decoder High).reads 25 (drop 25 (bits High golomb)) ≡ Done 5 (Ok (pos 2)))
unfolding golomb and_then unary_decoder unsigned unsigned_decoder digits digits_number lib.Count.count_leading_zeros
golomb_numbers = (refl, refl, refl, refl, refl)

-- ---- samples of 12 bits

samples :
    (write_sequence (samples_writes High (2748 ∷ 3567 ∷ [])) 0 ≡ bits High (171 ∷ 205 ∷ 239 ∷ []))
    × ((samples_decoder High 2).reads 0 (bits High (171 ∷ 205 ∷ 239 ∷ [])) ≡ Done 24 (Ok (2748 ∷ 3567 ∷ [])))
    × ((samples_decoder High 3).reads 0 (bits High (171 ∷ 205 ∷ 239 ∷ [])) ≡ Incomplete)
unfolding items_decoder and_then unsigned unsigned_decoder digits digits_number
samples = (refl, refl, refl)

-- ---- a measurement: 110, 1100 1100 0001, 00101 and 110

measured : Measurement
measured = record { missed = 2; distance = 100; turn = negsuc 2; state = Backward }

measurements :
    (write_sequence (measurement_writes High measured ++ align ∷ []) 0 ≡ bits High (217 ∷ 130 ∷ 92 ∷ []))
    × ((measurement_decoder High).reads 0 (bits High (217 ∷ 130 ∷ 92 ∷ [])) ≡ Done 23 (Ok measured))
unfolding measured and_then unary_decoder groups groups_at groups_decoder signed_groups_decoder path_decoder digits digits_number
measurements = (refl, refl)

-- ---- a parameter set of 40 by 8 macroblocks at level 3

parameter_set : List ℕ
parameter_set = 103 ∷ 66 ∷ 192 ∷ 30 ∷ 217 ∷ 0 ∷ 160 ∷ 71 ∷ 254 ∷ 200 ∷ []

small_picture : Sps
small_picture = record {
  profile = 66;
  constraints = 192;
  level = 30;
  id = 0;
  frame_number_bits = 0;
  reference_frames = 3;
  gaps = false;
  width = 40;
  height = 8;
}

parameter_sets :
    ((sps_decoder High).reads 0 (bits High parameter_set) ≡ Done 61 (Ok (Ok small_picture)))
    × ((sps_decoder High).reads 0 (bits High (104 ∷ 206 ∷ [])) ≡ Done 8 (Ok (Err OtherUnit)))
    × ((sps_decoder High).reads 0 (bits High (take 5 parameter_set)) ≡ Incomplete)
unfolding parameter_set small_picture and_then const_decoder unary_decoder unsigned_decoder digits digits_number
parameter_sets = (refl, refl, refl)
