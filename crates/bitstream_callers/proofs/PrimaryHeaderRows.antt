-- Made by `./format` from formats/primary_header.fields: edit that file and make this one anew.
-- Worked rows of a `PrimaryHeader`.
use Rattle.bitstream_callers.specs.PrimaryHeader.{primary_header_decoder, primary_header_writes}
use Rattle.bitstream_io.specs.Codec.{and_then}
use Rattle.bitstream_io.specs.Word.{digits, digits_number}
use Rattle.bitstream_io.specs.WriteTable.{unsigned}
use Rattle.bitstream_io.specs.ReadTable.{unsigned_decoder, const_decoder}
use Rattle.bitstream_callers.specs.declared.primary_header.PrimaryHeader.{PrimaryHeader}
use Rattle.std.proofs.Common.{◌≡◌, ◌++◌, ◌∷◌, [], ℕ, true, List, Ok, length, refl}
use Rattle.bitstream_io.specs.Callers.{Done, High, bits, align, write_sequence}

row_0 : List ℕ
row_0 = 24 ∷ 6 ∷ 192 ∷ 0 ∷ 0 ∷ 1 ∷ []

value_0 : PrimaryHeader
value_0 = record {
  telecommand = true;
  secondary = true;
  apid = 6;
  sequence = 3;
  count = 0;
  length = 1;
}

written_0 : (write_sequence (primary_header_writes High value_0 ++ align ∷ []) 0 ≡ bits High row_0)
    × ((primary_header_decoder High).reads 0 (bits High row_0)
    ≡ Done (length (write_sequence (primary_header_writes High value_0) 0)) (Ok (Ok value_0)))
unfolding row_0 value_0 and_then digits digits_number unsigned unsigned_decoder const_decoder
written_0 = (refl, refl)
