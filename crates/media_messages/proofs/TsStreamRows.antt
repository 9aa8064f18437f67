-- Made by `./format` from formats/ts_stream.fields: edit that file and make this one anew.
-- Worked rows of a `TsStream`.
use Rattle.media_messages.specs.TsStream.{ts_stream_decoder, ts_stream_writes}
use Rattle.bitstream_io.specs.Codec.{and_then}
use Rattle.bitstream_io.specs.Word.{digits, digits_number, bytes_of}
use Rattle.bitstream_io.specs.WriteTable.{unsigned}
use Rattle.bitstream_io.specs.ReadTable.{unsigned_decoder, const_decoder, bytes_decoder}
use Rattle.bitstream_format.specs.Within.{size_encoder}
use Rattle.media_messages.specs.declared.ts_stream.TsStream.{TsStream}
use Rattle.std.proofs.Common.{◌≡◌, ◌++◌, ◌∷◌, [], ℕ, List, Ok, length, refl}
use Rattle.bitstream_io.specs.Callers.{Done, High, bits, align, write_sequence}

row_0 : List ℕ
row_0 = 2 ∷ 225 ∷ 0 ∷ 240 ∷ 0 ∷ []

value_0 : TsStream
value_0 = record {
  kind = 2;
  packets = 256;
  descriptors = [];
}

written_0 : (write_sequence (ts_stream_writes High value_0 ++ align ∷ []) 0 ≡ bits High row_0)
    × ((ts_stream_decoder High).reads 0 (bits High row_0)
    ≡ Done (length (write_sequence (ts_stream_writes High value_0) 0)) (Ok (Ok value_0)))
unfolding row_0 value_0 and_then digits digits_number bytes_of unsigned unsigned_decoder const_decoder bytes_decoder
    size_encoder
written_0 = (refl, refl)

row_1 : List ℕ
row_1 = 3 ∷ 225 ∷ 1 ∷ 240 ∷ 6 ∷ 10 ∷ 4 ∷ 101 ∷ 110 ∷ 103 ∷ 0 ∷ []

value_1 : TsStream
value_1 = record {
  kind = 3;
  packets = 257;
  descriptors = 10 ∷ 4 ∷ 101 ∷ 110 ∷ 103 ∷ 0 ∷ [];
}

written_1 : (write_sequence (ts_stream_writes High value_1 ++ align ∷ []) 0 ≡ bits High row_1)
    × ((ts_stream_decoder High).reads 0 (bits High row_1)
    ≡ Done (length (write_sequence (ts_stream_writes High value_1) 0)) (Ok (Ok value_1)))
unfolding row_1 value_1 and_then digits digits_number bytes_of unsigned unsigned_decoder const_decoder bytes_decoder
    size_encoder
written_1 = (refl, refl)
