-- Made by `./format` from formats/ts_pat.fields: edit that file and make this one anew.
-- Worked rows of a `TsPat`.
use Rattle.media_messages.specs.TsPat.{ts_pat_decoder, ts_pat_writes}
use Rattle.bitstream_format.specs.Stated.{size_in_units, stored_encoder, stored_size}
use Rattle.bitstream_io.specs.Codec.{and_then}
use Rattle.bitstream_io.specs.Word.{digits, digits_number, bytes_of}
use Rattle.bitstream_io.specs.WriteTable.{unsigned}
use Rattle.bitstream_io.specs.ReadTable.{unsigned_decoder, const_decoder, bytes_decoder}
use Rattle.bitstream_format.specs.Checks.{crc_over, steps}
use Rattle.bitstream_format.specs.Summed.{lines_sum, whole_bytes}
use Rattle.bitstream_format.specs.Stated.{stated_size}
use Rattle.media_messages.specs.declared.ts_pat.TsPat.{TsPat}
use Rattle.media_messages.specs.declared.ts_pat.TsPatError.TheVariants.{WrongCrc}
use Rattle.std.proofs.Common.{◌≡◌, ◌++◌, ◌∷◌, [], ℕ, true, List, Ok, Err, length, refl}
use Rattle.bitstream_io.specs.Callers.{Done, High, bits, align, write_sequence, sure_answer}

row_0 : List ℕ
row_0 = 0 ∷ 176 ∷ 13 ∷ 0 ∷ 1 ∷ 193 ∷ 0 ∷ 0 ∷ 0 ∷ 1 ∷ 240 ∷ 0 ∷ 42 ∷ 177 ∷ 4 ∷ 178 ∷ []

value_0 : TsPat
value_0 = record {
  stream = 1;
  version = 0;
  current = true;
  section = 0;
  last = 0;
  programs = (record { program = 1; packets = 4096 }) ∷ [];
}

written_0 : (write_sequence (ts_pat_writes High value_0 ++ align ∷ []) 0 ≡ bits High row_0)
    × ((ts_pat_decoder High).reads 0 (bits High row_0)
    ≡ Done (length (write_sequence (ts_pat_writes High value_0) 0)) (Ok (Ok value_0)))
unfolding row_0 value_0 and_then digits digits_number bytes_of unsigned unsigned_decoder const_decoder bytes_decoder
    crc_over steps lines_sum whole_bytes size_in_units stated_size stored_size stored_encoder
written_0 = (refl, refl)

row_1 : List ℕ
row_1 = 0 ∷ 176 ∷ 17 ∷ 0 ∷ 1 ∷ 193 ∷ 0 ∷ 0 ∷ 0 ∷ 1 ∷ 240 ∷ 0 ∷ 0 ∷ 2 ∷ 240 ∷ 1 ∷ 32 ∷ 130 ∷ 122 ∷ 77 ∷ []

value_1 : TsPat
value_1 = record {
  stream = 1;
  version = 0;
  current = true;
  section = 0;
  last = 0;
  programs = (record { program = 1; packets = 4096 }) ∷ (record { program = 2; packets = 4097 }) ∷ [];
}

written_1 : (write_sequence (ts_pat_writes High value_1 ++ align ∷ []) 0 ≡ bits High row_1)
    × ((ts_pat_decoder High).reads 0 (bits High row_1)
    ≡ Done (length (write_sequence (ts_pat_writes High value_1) 0)) (Ok (Ok value_1)))
unfolding row_1 value_1 and_then digits digits_number bytes_of unsigned unsigned_decoder const_decoder bytes_decoder
    crc_over steps lines_sum whole_bytes size_in_units stated_size stored_size stored_encoder
written_1 = (refl, refl)

row_2 : List ℕ
row_2 = 0 ∷ 176 ∷ 13 ∷ 0 ∷ 1 ∷ 193 ∷ 0 ∷ 0 ∷ 0 ∷ 1 ∷ 240 ∷ 1 ∷ 42 ∷ 177 ∷ 4 ∷ 178 ∷ []

refused_2 : sure_answer ((ts_pat_decoder High).reads 0 (bits High row_2)) ≡ Ok (Err WrongCrc)
unfolding row_2 and_then digits digits_number bytes_of unsigned unsigned_decoder const_decoder bytes_decoder crc_over
    steps lines_sum whole_bytes size_in_units stated_size stored_size stored_encoder
refused_2 = refl
