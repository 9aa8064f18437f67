-- Made by `./format` from formats/sample.fields: edit that file and make this one anew.
-- Worked rows of a `Sample`.
use Rattle.bitstream_callers.specs.Sample.{sample_decoder, sample_writes}
use Rattle.bitstream_io.specs.Codec.{and_then}
use Rattle.bitstream_io.specs.Word.{digits, digits_number}
use Rattle.bitstream_io.specs.WriteTable.{unsigned, signed}
use Rattle.bitstream_io.specs.ReadTable.{unsigned_decoder, signed_decoder}
use Rattle.bitstream_callers.specs.declared.sample.Sample.{Sample}
use Rattle.std.proofs.Common.{◌≡◌, ◌++◌, ◌∷◌, [], ℕ, true, List, Ok, length, refl}
use Rattle.std.specs.Prelude.{negsuc}
use Rattle.bitstream_io.specs.Callers.{Done, High, bits, align, write_sequence}

row_0 : List ℕ
row_0 = 18 ∷ 52 ∷ 95 ∷ 177 ∷ 139 ∷ 205 ∷ []

value_0 : Sample
value_0 = record {
  seconds = 74565;
  running = true;
  temperature = negsuc 19;
  pressure = 101325;
}

written_0 : (write_sequence (sample_writes High value_0 ++ align ∷ []) 0 ≡ bits High row_0)
    × ((sample_decoder High).reads 0 (bits High row_0)
    ≡ Done (length (write_sequence (sample_writes High value_0) 0)) (Ok value_0))
unfolding row_0 value_0 and_then digits digits_number unsigned signed unsigned_decoder signed_decoder
written_0 = (refl, refl)

row_1 : List ℕ
row_1 = 171 ∷ 205 ∷ 239 ∷ 248 ∷ 0 ∷ 1 ∷ []

value_1 : Sample
value_1 = record {
  seconds = 703710;
  running = true;
  temperature = negsuc 1;
  pressure = 1;
}

written_1 : (write_sequence (sample_writes High value_1 ++ align ∷ []) 0 ≡ bits High row_1)
    × ((sample_decoder High).reads 0 (bits High row_1)
    ≡ Done (length (write_sequence (sample_writes High value_1) 0)) (Ok value_1))
unfolding row_1 value_1 and_then digits digits_number unsigned signed unsigned_decoder signed_decoder
written_1 = (refl, refl)
