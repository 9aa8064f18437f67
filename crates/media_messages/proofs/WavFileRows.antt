-- Made by `./format` from formats/wav_file.fields: edit that file and make this one anew.
-- Worked rows of a `WavFile`.
use Rattle.media_messages.specs.WavFile.{wav_file_decoder, wav_file_writes}
use Rattle.bitstream_io.specs.Codec.{and_then}
use Rattle.bitstream_io.specs.Word.{digits, digits_number, bytes_of}
use Rattle.bitstream_io.specs.WriteTable.{unsigned}
use Rattle.bitstream_io.specs.ReadTable.{unsigned_decoder, const_decoder, bytes_decoder}
use Rattle.bitstream_format.specs.Within.{size_encoder}
use Rattle.bitstream_format.specs.Summed.{lines_sum, whole_bytes}
use Rattle.bitstream_format.specs.Stated.{stored_size}
use Rattle.media_messages.specs.declared.wav_file.WavFile.{WavFile}
use Rattle.media_messages.specs.declared.wav_file.WavFileError.TheVariants.{OtherRiff}
use Rattle.std.proofs.Common.{◌≡◌, ◌++◌, ◌∷◌, [], ℕ, List, Ok, Err, length, refl}
use Rattle.bitstream_io.specs.Callers.{Done, Low, bits, align, write_sequence, sure_answer}

row_0 : List ℕ
row_0 = 82 ∷ 73 ∷ 70 ∷ 70 ∷ 42 ∷ 0 ∷ 0 ∷ 0 ∷ 87 ∷ 65 ∷ 86 ∷ 69 ∷ 102 ∷ 109 ∷ 116 ∷ 32 ∷ 16 ∷ 0 ∷ 0 ∷ 0 ∷ 1 ∷ 0 ∷ 1 ∷ 0 ∷
    64 ∷ 31 ∷ 0 ∷ 0 ∷ 128 ∷ 62 ∷ 0 ∷ 0 ∷ 2 ∷ 0 ∷ 16 ∷ 0 ∷ 100 ∷ 97 ∷ 116 ∷ 97 ∷ 6 ∷ 0 ∷ 0 ∷ 0 ∷ 1 ∷ 0 ∷ 254 ∷ 255 ∷ 3 ∷
    0 ∷ []

value_0 : WavFile
value_0 = record {
  tag = 1;
  channels = 1;
  rate = 8000;
  byte_rate = 16000;
  align = 2;
  bits = 16;
  samples = 1 ∷ 0 ∷ 254 ∷ 255 ∷ 3 ∷ 0 ∷ [];
}

written_0 : (write_sequence (wav_file_writes Low value_0 ++ align ∷ []) 0 ≡ bits Low row_0)
    × ((wav_file_decoder Low).reads 0 (bits Low row_0)
    ≡ Done (length (write_sequence (wav_file_writes Low value_0) 0)) (Ok (Ok value_0)))
unfolding row_0 value_0 and_then digits digits_number bytes_of unsigned unsigned_decoder const_decoder bytes_decoder
    size_encoder lines_sum whole_bytes stored_size
written_0 = (refl, refl)

row_1 : List ℕ
row_1 = 82 ∷ 73 ∷ 70 ∷ 70 ∷ 43 ∷ 0 ∷ 0 ∷ 0 ∷ 87 ∷ 65 ∷ 86 ∷ 69 ∷ 102 ∷ 109 ∷ 116 ∷ 32 ∷ 16 ∷ 0 ∷ 0 ∷ 0 ∷ 1 ∷ 0 ∷ 1 ∷ 0 ∷
    64 ∷ 31 ∷ 0 ∷ 0 ∷ 128 ∷ 62 ∷ 0 ∷ 0 ∷ 2 ∷ 0 ∷ 16 ∷ 0 ∷ 100 ∷ 97 ∷ 116 ∷ 97 ∷ 6 ∷ 0 ∷ 0 ∷ 0 ∷ 1 ∷ 0 ∷ 254 ∷ 255 ∷ 3 ∷
    0 ∷ []

refused_1 : sure_answer ((wav_file_decoder Low).reads 0 (bits Low row_1)) ≡ Ok (Err OtherRiff)
unfolding row_1 and_then digits digits_number bytes_of unsigned unsigned_decoder const_decoder bytes_decoder
    size_encoder lines_sum whole_bytes stored_size
refused_1 = refl
