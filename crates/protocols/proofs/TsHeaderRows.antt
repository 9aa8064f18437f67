-- Made by `./format` from formats/ts_header.fields: edit that file and make this one anew.
-- Worked rows of a `TsHeader`.
use Rattle.protocols.specs.TsHeader.{ts_header_decoder, ts_header_writes}
use Rattle.bitstream_io.specs.Codec.{and_then}
use Rattle.bitstream_io.specs.Word.{digits, digits_number}
use Rattle.bitstream_io.specs.WriteTable.{unsigned}
use Rattle.bitstream_io.specs.ReadTable.{unsigned_decoder, const_decoder}
use Rattle.protocols.specs.declared.ts_header.TsHeader.{TsHeader}
use Rattle.protocols.specs.declared.ts_header.TsError.TheVariants.{NoAdaptation}
use Rattle.protocols.specs.declared.ts_header.Adaptation.TheVariants.{Payload}
use Rattle.std.proofs.Common.{◌≡◌, ◌++◌, ◌∷◌, [], ℕ, true, false, List, Ok, Err, length, refl}
use Rattle.bitstream_io.specs.Callers.{Done, High, bits, align, write_sequence, sure_answer}

row_0 : List ℕ
row_0 = 71 ∷ 64 ∷ 17 ∷ 16 ∷ []

value_0 : TsHeader
value_0 = record {
  damaged = false;
  starts = true;
  priority = false;
  pid = 17;
  scrambling = 0;
  adaptation = Payload;
  continuity = 0;
}

written_0 : (write_sequence (ts_header_writes High value_0 ++ align ∷ []) 0 ≡ bits High row_0)
    × ((ts_header_decoder High).reads 0 (bits High row_0)
    ≡ Done (length (write_sequence (ts_header_writes High value_0) 0)) (Ok (Ok value_0)))
unfolding row_0 value_0 and_then digits digits_number unsigned unsigned_decoder const_decoder
written_0 = (refl, refl)

row_1 : List ℕ
row_1 = 71 ∷ 64 ∷ 0 ∷ 0 ∷ []

refused_1 : sure_answer ((ts_header_decoder High).reads 0 (bits High row_1)) ≡ Ok (Err NoAdaptation)
unfolding row_1 and_then digits digits_number unsigned unsigned_decoder const_decoder
refused_1 = refl
