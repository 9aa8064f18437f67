-- Made by `./format` from formats/can_frame.fields: edit that file and make this one anew.
-- Worked rows of a `CanFrame`.
use Rattle.protocols.specs.CanFrame.{can_frame_decoder, can_frame_writes}
use Rattle.bitstream_io.specs.Codec.{and_then}
use Rattle.bitstream_io.specs.Word.{digits, digits_number}
use Rattle.bitstream_io.specs.WriteTable.{unsigned}
use Rattle.bitstream_io.specs.ReadTable.{unsigned_decoder, skip_decoder}
use Rattle.protocols.specs.declared.can_frame.CanFrame.{CanFrame}
use Rattle.std.proofs.Common.{◌≡◌, ◌++◌, ◌∷◌, [], ℕ, true, false, List, Ok, length, refl}
use Rattle.bitstream_io.specs.Callers.{Done, High, bits, align, write_sequence}

row_0 : List ℕ
row_0 = 152 ∷ 254 ∷ 241 ∷ 0 ∷ 8 ∷ 0 ∷ 0 ∷ 0 ∷ []

value_0 : CanFrame
value_0 = record {
  extended = true;
  remote = false;
  fault = false;
  id = 419361024;
  size = 8;
}

written_0 : (write_sequence (can_frame_writes High value_0 ++ align ∷ []) 0 ≡ bits High row_0)
    × ((can_frame_decoder High).reads 0 (bits High row_0)
    ≡ Done (length (write_sequence (can_frame_writes High value_0) 0)) (Ok value_0))
unfolding row_0 value_0 and_then digits digits_number unsigned unsigned_decoder skip_decoder
written_0 = (refl, refl)
