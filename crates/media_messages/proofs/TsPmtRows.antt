-- Made by `./format` from formats/ts_pmt.fields: edit that file and make this one anew.
-- Worked rows of a `TsPmt`.
use Rattle.media_messages.specs.TsPmt.{ts_pmt_decoder, ts_pmt_writes}
use Rattle.bitstream_format.specs.Stated.{size_in_units, stored_encoder, stored_size}
use Rattle.bitstream_format.specs.Within.{size_encoder}
use Rattle.bitstream_io.specs.Codec.{and_then}
use Rattle.bitstream_io.specs.Word.{digits, digits_number, bytes_of}
use Rattle.bitstream_io.specs.WriteTable.{unsigned}
use Rattle.bitstream_io.specs.ReadTable.{unsigned_decoder, const_decoder, bytes_decoder}
use Rattle.bitstream_format.specs.Checks.{crc_over, steps}
use Rattle.bitstream_format.specs.Summed.{lines_sum, whole_bytes}
use Rattle.bitstream_format.specs.Stated.{stated_size}
use Rattle.media_messages.specs.declared.ts_pmt.TsPmt.{TsPmt}
use Rattle.media_messages.specs.declared.ts_pmt.TsPmtError.TheVariants.{WrongCrc}
use Rattle.std.proofs.Common.{◌≡◌, ◌++◌, ◌∷◌, [], ℕ, true, List, Ok, Err, length, refl}
use Rattle.bitstream_io.specs.Callers.{Done, High, bits, align, write_sequence, sure_answer}

row_0 : List ℕ
row_0 = 2 ∷ 176 ∷ 29 ∷ 0 ∷ 1 ∷ 193 ∷ 0 ∷ 0 ∷ 225 ∷ 0 ∷ 240 ∷ 0 ∷ 2 ∷ 225 ∷ 0 ∷ 240 ∷ 0 ∷ 3 ∷ 225 ∷ 1 ∷ 240 ∷ 6 ∷ 10 ∷ 4
    ∷ 101 ∷ 110 ∷ 103 ∷ 0 ∷ 17 ∷ 98 ∷ 95 ∷ 128 ∷ []

value_0 : TsPmt
value_0 = record {
  program = 1;
  version = 0;
  current = true;
  clock = 256;
  streams = (record { kind = 2; packets = 256; descriptors = [] }) ∷ (record {
    kind = 3;
    packets = 257;
    descriptors = 10
        ∷ 4 ∷ 101 ∷ 110 ∷ 103 ∷ 0 ∷ [];
  }) ∷ [];
}

written_0 : (write_sequence (ts_pmt_writes High value_0 ++ align ∷ []) 0 ≡ bits High row_0)
    × ((ts_pmt_decoder High).reads 0 (bits High row_0)
    ≡ Done (length (write_sequence (ts_pmt_writes High value_0) 0)) (Ok (Ok value_0)))
unfolding row_0 value_0 and_then digits digits_number bytes_of unsigned unsigned_decoder const_decoder bytes_decoder
    size_encoder crc_over steps lines_sum whole_bytes size_in_units stated_size stored_size stored_encoder
written_0 = (refl, refl)

row_1 : List ℕ
row_1 = 2 ∷ 176 ∷ 23 ∷ 0 ∷ 2 ∷ 193 ∷ 0 ∷ 0 ∷ 225 ∷ 2 ∷ 240 ∷ 0 ∷ 2 ∷ 225 ∷ 2 ∷ 240 ∷ 0 ∷ 3 ∷ 225 ∷ 3 ∷ 240 ∷ 0 ∷ 16 ∷ 88
    ∷ 53 ∷ 90 ∷ []

value_1 : TsPmt
value_1 = record {
  program = 2;
  version = 0;
  current = true;
  clock = 258;
  streams = (record { kind = 2; packets = 258; descriptors = [] }) ∷ (record {
    kind = 3;
    packets = 259;
    descriptors = [];
  }) ∷ [];
}

written_1 : (write_sequence (ts_pmt_writes High value_1 ++ align ∷ []) 0 ≡ bits High row_1)
    × ((ts_pmt_decoder High).reads 0 (bits High row_1)
    ≡ Done (length (write_sequence (ts_pmt_writes High value_1) 0)) (Ok (Ok value_1)))
unfolding row_1 value_1 and_then digits digits_number bytes_of unsigned unsigned_decoder const_decoder bytes_decoder
    size_encoder crc_over steps lines_sum whole_bytes size_in_units stated_size stored_size stored_encoder
written_1 = (refl, refl)

row_2 : List ℕ
row_2 = 2 ∷ 176 ∷ 23 ∷ 0 ∷ 1 ∷ 193 ∷ 0 ∷ 0 ∷ 225 ∷ 0 ∷ 240 ∷ 0 ∷ 2 ∷ 225 ∷ 0 ∷ 240 ∷ 0 ∷ 3 ∷ 225 ∷ 1 ∷ 240 ∷ 0 ∷ 246 ∷
    74 ∷ 3 ∷ 84 ∷ []

refused_2 : sure_answer ((ts_pmt_decoder High).reads 0 (bits High row_2)) ≡ Ok (Err WrongCrc)
unfolding row_2 and_then digits digits_number bytes_of unsigned unsigned_decoder const_decoder bytes_decoder
    size_encoder crc_over steps lines_sum whole_bytes size_in_units stated_size stored_size stored_encoder
refused_2 = refl
