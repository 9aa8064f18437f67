-- Made by `./format` from formats/log.fields: edit that file and make this one anew.
-- Worked rows of a `Log`.
use Rattle.bitstream_messages.specs.Log.{log_decoder, log_writes}
use Rattle.bitstream_format.specs.Within.{size_encoder}
use Rattle.bitstream_io.specs.Codec.{and_then}
use Rattle.bitstream_io.specs.Word.{digits, digits_number, bytes_of}
use Rattle.bitstream_io.specs.WriteTable.{unsigned}
use Rattle.bitstream_io.specs.ReadTable.{unsigned_decoder, const_decoder, skip_decoder, bytes_decoder}
use Rattle.bitstream_messages.specs.declared.log.Log.{Log}
use Rattle.bitstream_messages.specs.declared.log.LogError.TheVariants.{OddAcks, OddMarks}
use Rattle.std.proofs.Common.{◌≡◌, ◌++◌, ◌∷◌, [], ℕ, true, false, List, Ok, Err, length, refl}
use Rattle.bitstream_io.specs.Callers.{Done, High, bits, align, write_sequence, sure_answer}

row_0 : List ℕ
row_0 = 6 ∷ 4 ∷ 0 ∷ 5 ∷ 128 ∷ 0 ∷ 6 ∷ 0 ∷ 7 ∷ 1 ∷ 7 ∷ 2 ∷ []

value_0 : Log
value_0 = record {
  acks = (record { sequence = 5; urgent = true }) ∷ (record { sequence = 6; urgent = false }) ∷ [];
  marks = (record { color = 1 }) ∷ (record { color = 2 }) ∷ [];
}

written_0 : (write_sequence (log_writes High value_0 ++ align ∷ []) 0 ≡ bits High row_0)
    × ((log_decoder High).reads 0 (bits High row_0)
    ≡ Done (length (write_sequence (log_writes High value_0) 0)) (Ok (Ok value_0)))
unfolding row_0 value_0 and_then digits digits_number bytes_of unsigned unsigned_decoder const_decoder skip_decoder
    bytes_decoder size_encoder
written_0 = (refl, refl)

row_1 : List ℕ
row_1 = 4 ∷ 0 ∷ 0 ∷ 5 ∷ 128 ∷ 0 ∷ []

refused_1 : sure_answer ((log_decoder High).reads 0 (bits High row_1)) ≡ Ok (Err OddAcks)
unfolding row_1 and_then digits digits_number bytes_of unsigned unsigned_decoder const_decoder skip_decoder
    bytes_decoder size_encoder
refused_1 = refl

row_2 : List ℕ
row_2 = 3 ∷ 3 ∷ 0 ∷ 5 ∷ 128 ∷ 7 ∷ 1 ∷ 7 ∷ []

refused_2 : sure_answer ((log_decoder High).reads 0 (bits High row_2)) ≡ Ok (Err OddMarks)
unfolding row_2 and_then digits digits_number bytes_of unsigned unsigned_decoder const_decoder skip_decoder
    bytes_decoder size_encoder
refused_2 = refl
