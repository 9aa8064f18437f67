-- Made by `./format` from formats/riff_chunk.fields: edit that file and make this one anew.
-- Worked rows of a `RiffChunk`.
use Rattle.bitstream_formats.specs.RiffChunk.{riff_chunk_decoder, riff_chunk_writes}
use Rattle.bitstream_io.specs.Codec.{and_then}
use Rattle.bitstream_io.specs.Word.{digits, digits_number, bytes_of}
use Rattle.bitstream_io.specs.WriteTable.{unsigned}
use Rattle.bitstream_io.specs.ReadTable.{unsigned_decoder, bytes_decoder}
use Rattle.bitstream_formats.specs.declared.riff_chunk.RiffChunk.{RiffChunk}
use Rattle.std.proofs.Common.{◌≡◌, ◌++◌, ◌∷◌, [], ℕ, List, Ok, length, refl}
use Rattle.bitstream_io.specs.Callers.{Done, Low, bits, align, write_sequence}

row_0 : List ℕ
row_0 = 102 ∷ 109 ∷ 116 ∷ 32 ∷ 16 ∷ 0 ∷ 0 ∷ 0 ∷ []

value_0 : RiffChunk
value_0 = record {
  id = 102 ∷ 109 ∷ 116 ∷ 32 ∷ [];
  size = 16;
}

written_0 : (write_sequence (riff_chunk_writes Low value_0 ++ align ∷ []) 0 ≡ bits Low row_0)
    × ((riff_chunk_decoder Low).reads 0 (bits Low row_0)
    ≡ Done (length (write_sequence (riff_chunk_writes Low value_0) 0)) (Ok value_0))
unfolding row_0 value_0 and_then digits digits_number bytes_of unsigned unsigned_decoder bytes_decoder
written_0 = (refl, refl)
