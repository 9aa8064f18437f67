-- Made by `./format` from formats/header.fields: edit that file and make this one anew.
-- Worked rows of a `Header`.
use Rattle.wav_header.specs.Header.{header_decoder, header_writes}
use Rattle.bitstream_io.specs.Codec.{and_then}
use Rattle.bitstream_io.specs.Word.{digits, digits_number}
use Rattle.bitstream_io.specs.WriteTable.{unsigned}
use Rattle.bitstream_io.specs.ReadTable.{unsigned_decoder, const_decoder}
use Rattle.wav_header.specs.declared.header.Header.{Header}
use Rattle.wav_header.specs.declared.header.HeaderError.TheVariants.{NoRiff, NoWave}
use Rattle.wav_header.specs.declared.header.Coding.TheVariants.{Pcm}
use Rattle.std.proofs.Common.{◌≡◌, ◌++◌, ◌∷◌, [], ℕ, List, Ok, Err, length, refl}
use Rattle.bitstream_io.specs.Callers.{Done, Low, bits, align, write_sequence, sure_answer}

row_0 : List ℕ
row_0 = 82 ∷ 73 ∷ 70 ∷ 70 ∷ 40 ∷ 0 ∷ 0 ∷ 0 ∷ 87 ∷ 65 ∷ 86 ∷ 69 ∷ 102 ∷ 109 ∷ 116 ∷ 32 ∷ 16 ∷ 0 ∷ 0 ∷ 0 ∷ 1 ∷ 0 ∷ 2 ∷ 0 ∷
    68 ∷ 172 ∷ 0 ∷ 0 ∷ 16 ∷ 177 ∷ 2 ∷ 0 ∷ 4 ∷ 0 ∷ 16 ∷ 0 ∷ 100 ∷ 97 ∷ 116 ∷ 97 ∷ 4 ∷ 0 ∷ 0 ∷ 0 ∷ []

value_0 : Header
value_0 = record {
  size = 40;
  coding = Pcm;
  channels = 2;
  sample_rate = 44100;
  byte_rate = 176400;
  block_size = 4;
  bits_per_sample = 16;
  data_size = 4;
}

written_0 : (write_sequence (header_writes Low value_0 ++ align ∷ []) 0 ≡ bits Low row_0)
    × ((header_decoder Low).reads 0 (bits Low row_0)
    ≡ Done (length (write_sequence (header_writes Low value_0) 0)) (Ok (Ok value_0)))
unfolding row_0 value_0 and_then digits digits_number unsigned unsigned_decoder const_decoder
written_0 = (refl, refl)

row_1 : List ℕ
row_1 = 79 ∷ 103 ∷ 103 ∷ 83 ∷ []

refused_1 : sure_answer ((header_decoder Low).reads 0 (bits Low row_1)) ≡ Ok (Err NoRiff)
unfolding row_1 and_then digits digits_number unsigned unsigned_decoder const_decoder
refused_1 = refl

row_2 : List ℕ
row_2 = 82 ∷ 73 ∷ 70 ∷ 70 ∷ 40 ∷ 0 ∷ 0 ∷ 0 ∷ 65 ∷ 86 ∷ 73 ∷ 32 ∷ []

refused_2 : sure_answer ((header_decoder Low).reads 0 (bits Low row_2)) ≡ Ok (Err NoWave)
unfolding row_2 and_then digits digits_number unsigned unsigned_decoder const_decoder
refused_2 = refl
