-- Made by `./format` from formats/stream_info.fields: edit that file and make this one anew.
-- Worked rows of a `StreamInfo`.
use Rattle.flac_codec.specs.StreamInfo.{stream_info_decoder, stream_info_writes}
use Rattle.bitstream_io.specs.Codec.{and_then}
use Rattle.bitstream_io.specs.Word.{digits, digits_number, bytes_of}
use Rattle.bitstream_io.specs.WriteTable.{unsigned}
use Rattle.bitstream_io.specs.ReadTable.{unsigned_decoder, bytes_decoder}
use Rattle.bitstream_io.specs.NonZero.{non_zero, non_zero_decoder}
use Rattle.flac_codec.specs.declared.stream_info.StreamInfo.{StreamInfo}
use Rattle.std.proofs.Common.{◌≡◌, ◌++◌, ◌∷◌, [], ℕ, List, Ok, length, refl}
use Rattle.bitstream_io.specs.Callers.{Done, High, bits, align, write_sequence, non_zero_u8}

row_0 : List ℕ
row_0 = 16 ∷ 0 ∷ 16 ∷ 0 ∷ 0 ∷ 6 ∷ 6 ∷ 0 ∷ 33 ∷ 98 ∷ 10 ∷ 196 ∷ 66 ∷ 240 ∷ 0 ∷ 4 ∷ 166 ∷ 204 ∷ 250 ∷ 242 ∷ 105 ∷ 47 ∷ 253
    ∷ 236 ∷ 45 ∷ 91 ∷ 48 ∷ 1 ∷ 118 ∷ 180 ∷ 98 ∷ 136 ∷ 125 ∷ 146 ∷ []

value_0 : StreamInfo
value_0 = record {
  minimum_block_size = 4096;
  maximum_block_size = 4096;
  minimum_frame_size = 1542;
  maximum_frame_size = 8546;
  sample_rate = 44100;
  channels = non_zero_u8 1;
  bits_per_sample = non_zero_u8 15;
  total_samples = 304844;
  checksum = 250 ∷ 242 ∷ 105 ∷ 47 ∷ 253 ∷ 236 ∷ 45 ∷ 91 ∷ 48 ∷ 1 ∷ 118 ∷ 180 ∷ 98 ∷ 136 ∷ 125 ∷ 146 ∷ [];
}

written_0 : (write_sequence (stream_info_writes High value_0 ++ align ∷ []) 0 ≡ bits High row_0)
    × ((stream_info_decoder High).reads 0 (bits High row_0)
    ≡ Done (length (write_sequence (stream_info_writes High value_0) 0)) (Ok value_0))
unfolding row_0 value_0 and_then digits digits_number bytes_of unsigned unsigned_decoder bytes_decoder non_zero
    non_zero_decoder
written_0 = (refl, refl)
