-- Made by `./format` from formats/ts_program.fields: edit that file and make this one anew.
-- Worked rows of a `TsProgram`.
use Rattle.media_messages.specs.TsProgram.{ts_program_decoder, ts_program_writes}
use Rattle.bitstream_io.specs.Codec.{and_then}
use Rattle.bitstream_io.specs.Word.{digits, digits_number}
use Rattle.bitstream_io.specs.WriteTable.{unsigned}
use Rattle.bitstream_io.specs.ReadTable.{unsigned_decoder, const_decoder}
use Rattle.media_messages.specs.declared.ts_program.TsProgram.{TsProgram}
use Rattle.media_messages.specs.declared.ts_program.TsProgramError.TheVariants.{ZeroReserved}
use Rattle.std.proofs.Common.{◌≡◌, ◌++◌, ◌∷◌, [], ℕ, List, Ok, Err, length, refl}
use Rattle.bitstream_io.specs.Callers.{Done, High, bits, align, write_sequence, sure_answer}

row_0 : List ℕ
row_0 = 0 ∷ 1 ∷ 240 ∷ 0 ∷ []

value_0 : TsProgram
value_0 = record {
  program = 1;
  packets = 4096;
}

written_0 : (write_sequence (ts_program_writes High value_0 ++ align ∷ []) 0 ≡ bits High row_0)
    × ((ts_program_decoder High).reads 0 (bits High row_0)
    ≡ Done (length (write_sequence (ts_program_writes High value_0) 0)) (Ok (Ok value_0)))
unfolding row_0 value_0 and_then digits digits_number unsigned unsigned_decoder const_decoder
written_0 = (refl, refl)

row_1 : List ℕ
row_1 = 0 ∷ 1 ∷ 112 ∷ 0 ∷ []

refused_1 : sure_answer ((ts_program_decoder High).reads 0 (bits High row_1)) ≡ Ok (Err ZeroReserved)
unfolding row_1 and_then digits digits_number unsigned unsigned_decoder const_decoder
refused_1 = refl
