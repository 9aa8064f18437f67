-- Made by `./format` from formats/report_block.fields: edit that file and make this one anew.
-- Worked rows of a `ReportBlock`.
use Rattle.protocols.specs.ReportBlock.{report_block_decoder, report_block_writes}
use Rattle.bitstream_io.specs.Codec.{and_then}
use Rattle.bitstream_io.specs.Word.{digits, digits_number}
use Rattle.bitstream_io.specs.WriteTable.{unsigned, signed}
use Rattle.bitstream_io.specs.ReadTable.{unsigned_decoder, signed_decoder}
use Rattle.protocols.specs.declared.report_block.ReportBlock.{ReportBlock}
use Rattle.std.proofs.Common.{◌≡◌, ◌++◌, ◌∷◌, [], ℕ, List, Ok, length, refl}
use Rattle.std.specs.Prelude.{negsuc}
use Rattle.bitstream_io.specs.Callers.{Done, High, bits, align, write_sequence}

row_0 : List ℕ
row_0 = 18 ∷ 52 ∷ 86 ∷ 120 ∷ 64 ∷ 255 ∷ 255 ∷ 254 ∷ 0 ∷ 1 ∷ 241 ∷ 123 ∷ 0 ∷ 0 ∷ 0 ∷ 30 ∷ 168 ∷ 18 ∷ 224 ∷ 65 ∷ 0 ∷ 1 ∷ 0
    ∷ 0 ∷ []

value_0 : ReportBlock
value_0 = record {
  ssrc = 305419896;
  fraction_lost = 64;
  lost = negsuc 1;
  highest = 127355;
  jitter = 30;
  last_report = 2819809345;
  delay = 65536;
}

written_0 : (write_sequence (report_block_writes High value_0 ++ align ∷ []) 0 ≡ bits High row_0)
    × ((report_block_decoder High).reads 0 (bits High row_0)
    ≡ Done (length (write_sequence (report_block_writes High value_0) 0)) (Ok value_0))
unfolding row_0 value_0 and_then digits digits_number unsigned signed unsigned_decoder signed_decoder
written_0 = (refl, refl)
