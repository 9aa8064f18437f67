-- Made by `./format` from formats/flac_block.fields: edit that file and make this one anew.
-- Worked rows of a `FlacBlock`.
use Rattle.media_messages.specs.FlacBlock.{flac_block_decoder, flac_block_writes}
use Rattle.bitstream_format.specs.Within.{size_encoder}
use Rattle.bitstream_io.specs.Codec.{and_then}
use Rattle.bitstream_io.specs.Word.{digits, digits_number, bytes_of}
use Rattle.bitstream_io.specs.WriteTable.{unsigned}
use Rattle.bitstream_io.specs.ReadTable.{unsigned_decoder, bytes_decoder}
use Rattle.bitstream_io.specs.NonZero.{non_zero, non_zero_decoder}
use Rattle.media_messages.specs.declared.flac_block.FlacBlock.{FlacBlock}
use Rattle.media_messages.specs.declared.flac_block.FlacBlockError.TheVariants.{OtherSize}
use Rattle.media_messages.specs.declared.flac_block.Body.TheVariants.{Info as BodyInfo, Other as BodyOther}
use Rattle.std.proofs.Common.{◌≡◌, ◌++◌, ◌∷◌, [], ℕ, true, false, List, Ok, Err, length, refl}
use Rattle.bitstream_io.specs.Callers.{Done, High, bits, align, write_sequence, sure_answer, non_zero_u8}

row_0 : List ℕ
row_0 = 0 ∷ 0 ∷ 0 ∷ 34 ∷ 16 ∷ 0 ∷ 16 ∷ 0 ∷ 0 ∷ 0 ∷ 100 ∷ 0 ∷ 0 ∷ 100 ∷ 1 ∷ 244 ∷ 0 ∷ 240 ∷ 0 ∷ 0 ∷ 0 ∷ 64 ∷ 110 ∷ 39 ∷
    244 ∷ 27 ∷ 178 ∷ 148 ∷ 245 ∷ 63 ∷ 105 ∷ 72 ∷ 121 ∷ 139 ∷ 199 ∷ 213 ∷ 32 ∷ 27 ∷ []

value_0 : FlacBlock
value_0 = record {
  last = false;
  body = BodyInfo (record {
    minimum_block_size = 4096;
    maximum_block_size = 4096;
    minimum_frame_size = 100;
    maximum_frame_size = 100;
    sample_rate = 8000;
    channels = non_zero_u8 0;
    bits_per_sample = non_zero_u8 15;
    total_samples = 64;
    checksum = 110 ∷ 39 ∷ 244 ∷ 27 ∷ 178 ∷ 148 ∷ 245 ∷ 63 ∷ 105 ∷ 72 ∷ 121 ∷ 139 ∷ 199 ∷ 213 ∷ 32
        ∷ 27 ∷ [];
  });
}

written_0 : (write_sequence (flac_block_writes High value_0 ++ align ∷ []) 0 ≡ bits High row_0)
    × ((flac_block_decoder High).reads 0 (bits High row_0)
    ≡ Done (length (write_sequence (flac_block_writes High value_0) 0)) (Ok (Ok value_0)))
unfolding row_0 value_0 and_then digits digits_number bytes_of unsigned unsigned_decoder bytes_decoder non_zero
    non_zero_decoder size_encoder
written_0 = (refl, refl)

row_1 : List ℕ
row_1 = 129 ∷ 0 ∷ 0 ∷ 2 ∷ 0 ∷ 0 ∷ []

value_1 : FlacBlock
value_1 = record {
  last = true;
  body = BodyOther (record { number = 1; bytes = 0 ∷ 0 ∷ [] });
}

written_1 : (write_sequence (flac_block_writes High value_1 ++ align ∷ []) 0 ≡ bits High row_1)
    × ((flac_block_decoder High).reads 0 (bits High row_1)
    ≡ Done (length (write_sequence (flac_block_writes High value_1) 0)) (Ok (Ok value_1)))
unfolding row_1 value_1 and_then digits digits_number bytes_of unsigned unsigned_decoder bytes_decoder non_zero
    non_zero_decoder size_encoder
written_1 = (refl, refl)

row_2 : List ℕ
row_2 = 0 ∷ 0 ∷ 0 ∷ 2 ∷ 16 ∷ 0 ∷ []

refused_2 : sure_answer ((flac_block_decoder High).reads 0 (bits High row_2)) ≡ Ok (Err OtherSize)
unfolding row_2 and_then digits digits_number bytes_of unsigned unsigned_decoder bytes_decoder non_zero non_zero_decoder
    size_encoder
refused_2 = refl
