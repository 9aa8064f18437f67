-- Made by `./format` from formats/header.fields: edit that file and make this one anew.
-- Worked rows of a `Header`.
use Rattle.bitstream_callers.specs.Header.{header_decoder, header_writes}
use Rattle.bitstream_io.specs.Codec.{and_then}
use Rattle.bitstream_io.specs.Word.{digits, digits_number}
use Rattle.bitstream_io.specs.WriteTable.{unsigned, signed}
use Rattle.bitstream_io.specs.ReadTable.{unsigned_decoder, signed_decoder}
use Rattle.bitstream_callers.specs.declared.header.Header.{Header}
use Rattle.std.proofs.Common.{◌≡◌, ◌++◌, ◌∷◌, [], ℕ, true, List, Ok, length, refl}
use Rattle.std.specs.Prelude.{negsuc}
use Rattle.bitstream_io.specs.Callers.{Done, High, bits, align, write_sequence}

row_0 : List ℕ
row_0 = 190 ∷ 2 ∷ 3 ∷ []

value_0 : Header
value_0 = record {
  version = 5;
  acknowledge = true;
  priority = negsuc 1;
  length = 515;
}

written_0 : (write_sequence (header_writes High value_0 ++ align ∷ []) 0 ≡ bits High row_0)
    × ((header_decoder High).reads 0 (bits High row_0)
    ≡ Done (length (write_sequence (header_writes High value_0) 0)) (Ok value_0))
unfolding row_0 value_0 and_then digits digits_number unsigned signed unsigned_decoder signed_decoder
written_0 = (refl, refl)
