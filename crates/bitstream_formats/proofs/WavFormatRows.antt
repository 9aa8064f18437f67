-- Made by `./format` from formats/wav_format.fields: edit that file and make this one anew.
-- Worked rows of a `WavFormat`.
use Rattle.bitstream_formats.specs.WavFormat.{wav_format_decoder, wav_format_writes}
use Rattle.bitstream_io.specs.Codec.{and_then}
use Rattle.bitstream_io.specs.Word.{digits, digits_number}
use Rattle.bitstream_io.specs.WriteTable.{unsigned}
use Rattle.bitstream_io.specs.ReadTable.{unsigned_decoder}
use Rattle.bitstream_formats.specs.declared.wav_format.WavFormat.{WavFormat}
use Rattle.bitstream_formats.specs.declared.wav_format.Coding.TheVariants.{Pcm}
use Rattle.std.proofs.Common.{◌≡◌, ◌++◌, ◌∷◌, [], ℕ, List, Ok, length, refl}
use Rattle.bitstream_io.specs.Callers.{Done, Low, bits, align, write_sequence}

row_0 : List ℕ
row_0 = 1 ∷ 0 ∷ 2 ∷ 0 ∷ 68 ∷ 172 ∷ 0 ∷ 0 ∷ 16 ∷ 177 ∷ 2 ∷ 0 ∷ 4 ∷ 0 ∷ 16 ∷ 0 ∷ []

value_0 : WavFormat
value_0 = record {
  coding = Pcm;
  channels = 2;
  sample_rate = 44100;
  byte_rate = 176400;
  block_size = 4;
  bits_per_sample = 16;
}

written_0 : (write_sequence (wav_format_writes Low value_0 ++ align ∷ []) 0 ≡ bits Low row_0)
    × ((wav_format_decoder Low).reads 0 (bits Low row_0)
    ≡ Done (length (write_sequence (wav_format_writes Low value_0) 0)) (Ok value_0))
unfolding row_0 value_0 and_then digits digits_number unsigned unsigned_decoder
written_0 = (refl, refl)
