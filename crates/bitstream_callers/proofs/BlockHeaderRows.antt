-- Made by `./format` from formats/block_header.fields: edit that file and make this one anew.
-- Worked rows of a `BlockHeader`.
use Rattle.bitstream_callers.specs.BlockHeader.{block_header_decoder, block_header_writes}
use Rattle.bitstream_io.specs.Codec.{and_then}
use Rattle.bitstream_io.specs.Word.{digits, digits_number}
use Rattle.bitstream_io.specs.WriteTable.{unsigned}
use Rattle.bitstream_io.specs.ReadTable.{unsigned_decoder}
use Rattle.bitstream_callers.specs.declared.block_header.BlockHeader.{BlockHeader}
use Rattle.std.proofs.Common.{◌≡◌, ◌++◌, ◌∷◌, [], ℕ, false, List, Ok, length, refl}
use Rattle.bitstream_io.specs.Callers.{Done, High, bits, align, write_sequence}

row_0 : List ℕ
row_0 = 0 ∷ 0 ∷ 0 ∷ 34 ∷ []

value_0 : BlockHeader
value_0 = record {
  last = false;
  kind = 0;
  size = 34;
}

written_0 : (write_sequence (block_header_writes High value_0 ++ align ∷ []) 0 ≡ bits High row_0)
    × ((block_header_decoder High).reads 0 (bits High row_0)
    ≡ Done (length (write_sequence (block_header_writes High value_0) 0)) (Ok value_0))
unfolding row_0 value_0 and_then digits digits_number unsigned unsigned_decoder
written_0 = (refl, refl)
