-- Made by `./format` from formats/flac_metadata.fields: edit that file and make this one anew.
-- Worked rows of a `FlacMetadata`.
use Rattle.media_messages.specs.FlacMetadata.{flac_metadata_decoder, flac_metadata_writes}
use Rattle.bitstream_io.specs.Codec.{and_then}
use Rattle.bitstream_io.specs.Word.{digits, digits_number, bytes_of}
use Rattle.bitstream_io.specs.WriteTable.{unsigned}
use Rattle.bitstream_io.specs.ReadTable.{unsigned_decoder, const_decoder, bytes_decoder}
use Rattle.bitstream_io.specs.NonZero.{non_zero, non_zero_decoder}
use Rattle.bitstream_format.specs.Within.{size_encoder}
use Rattle.bitstream_format.specs.UpToLast.{up_to_last_from}
use Rattle.media_messages.specs.declared.flac_block.Body.TheVariants.{Info as FlacBlockBodyInfo, Other as FlacBlockBodyOther}
use Rattle.media_messages.specs.declared.flac_metadata.FlacMetadata.{FlacMetadata}
use Rattle.media_messages.specs.declared.flac_metadata.FlacMetadataError.TheVariants.{NotFlac}
use Rattle.std.proofs.Common.{◌≡◌, ◌++◌, ◌∷◌, [], ℕ, true, false, List, Ok, Err, length, refl}
use Rattle.bitstream_io.specs.Callers.{Done, EndOfInput, High, bits, align, write_sequence, sure_answer, non_zero_u8}

row_0 : List ℕ
row_0 = 102 ∷ 76 ∷ 97 ∷ 67 ∷ 0 ∷ 0 ∷ 0 ∷ 34 ∷ 16 ∷ 0 ∷ 16 ∷ 0 ∷ 0 ∷ 0 ∷ 100 ∷ 0 ∷ 0 ∷ 100 ∷ 1 ∷ 244 ∷ 0 ∷ 240 ∷ 0 ∷ 0 ∷
    0 ∷ 64 ∷ 110 ∷ 39 ∷ 244 ∷ 27 ∷ 178 ∷ 148 ∷ 245 ∷ 63 ∷ 105 ∷ 72 ∷ 121 ∷ 139 ∷ 199 ∷ 213 ∷ 32 ∷ 27 ∷ 129 ∷ 0 ∷ 0 ∷ 2 ∷
    0 ∷ 0 ∷ []

value_0 : FlacMetadata
value_0 = record {
  blocks = (record {
    last = false;
    body = FlacBlockBodyInfo (record {
      minimum_block_size = 4096;
      maximum_block_size =
          4096;
      minimum_frame_size = 100;
      maximum_frame_size = 100;
      sample_rate = 8000;
      channels = non_zero_u8 0;
      bits_per_sample = non_zero_u8 15;
      total_samples = 64;
      checksum = 110 ∷ 39 ∷ 244 ∷ 27 ∷ 178 ∷ 148 ∷ 245 ∷ 63 ∷ 105
          ∷ 72 ∷ 121 ∷ 139 ∷ 199 ∷ 213 ∷ 32 ∷ 27 ∷ [];
    });
  }) ∷ (record {
    last = true;
    body = FlacBlockBodyOther (record {
      number = 1;
      bytes = 0 ∷ 0 ∷ [];
    });
  }) ∷ [];
}

written_0 : (write_sequence (flac_metadata_writes High value_0 ++ align ∷ []) 0 ≡ bits High row_0)
    × ((flac_metadata_decoder High).reads 0 (bits High row_0)
    ≡ Done (length (write_sequence (flac_metadata_writes High value_0) 0)) (Ok (Ok value_0)))
unfolding row_0 value_0 and_then digits digits_number bytes_of unsigned unsigned_decoder const_decoder bytes_decoder
    non_zero non_zero_decoder size_encoder up_to_last_from
written_0 = (refl, refl)

row_1 : List ℕ
row_1 = 102 ∷ 76 ∷ 97 ∷ 67 ∷ 1 ∷ 0 ∷ 0 ∷ 0 ∷ []

refused_1 : sure_answer ((flac_metadata_decoder High).reads 0 (bits High row_1)) ≡ Err EndOfInput
unfolding row_1 and_then digits digits_number bytes_of unsigned unsigned_decoder const_decoder bytes_decoder non_zero
    non_zero_decoder size_encoder up_to_last_from
refused_1 = refl

row_2 : List ℕ
row_2 = 79 ∷ 103 ∷ 103 ∷ 83 ∷ []

refused_2 : sure_answer ((flac_metadata_decoder High).reads 0 (bits High row_2)) ≡ Ok (Err NotFlac)
unfolding row_2 and_then digits digits_number bytes_of unsigned unsigned_decoder const_decoder bytes_decoder non_zero
    non_zero_decoder size_encoder up_to_last_from
refused_2 = refl
