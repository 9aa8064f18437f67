-- Made by `./format` from formats/j1939_frame.fields: edit that file and make this one anew.
-- Worked rows of a `J1939Frame`.
use Rattle.protocols.specs.J1939Frame.{j1939_frame_decoder, j1939_frame_writes}
use Rattle.bitstream_io.specs.Codec.{and_then}
use Rattle.bitstream_io.specs.Word.{digits, digits_number, bytes_of}
use Rattle.bitstream_io.specs.WriteTable.{unsigned}
use Rattle.bitstream_io.specs.ReadTable.{unsigned_decoder, const_decoder, skip_decoder, bytes_decoder}
use Rattle.protocols.specs.declared.j1939_frame.J1939Frame.{J1939Frame}
use Rattle.protocols.specs.declared.j1939_frame.J1939Error.TheVariants.{OtherFrame}
use Rattle.std.proofs.Common.{◌≡◌, ◌++◌, ◌∷◌, [], ℕ, false, List, Ok, Err, length, refl}
use Rattle.bitstream_io.specs.Callers.{Done, High, bits, align, write_sequence, sure_answer}

row_0 : List ℕ
row_0 = 152 ∷ 254 ∷ 241 ∷ 0 ∷ 8 ∷ 0 ∷ 0 ∷ 0 ∷ 255 ∷ 0 ∷ 0 ∷ 192 ∷ 255 ∷ 0 ∷ 255 ∷ 255 ∷ []

value_0 : J1939Frame
value_0 = record {
  priority = 6;
  extended_page = false;
  page = false;
  format = 254;
  specific = 241;
  source = 0;
  payload = 255 ∷ 0 ∷ 0 ∷ 192 ∷ 255 ∷ 0 ∷ 255 ∷ 255 ∷ [];
}

written_0 : (write_sequence (j1939_frame_writes High value_0 ++ align ∷ []) 0 ≡ bits High row_0)
    × ((j1939_frame_decoder High).reads 0 (bits High row_0)
    ≡ Done (length (write_sequence (j1939_frame_writes High value_0) 0)) (Ok (Ok value_0)))
unfolding row_0 value_0 and_then digits digits_number bytes_of unsigned unsigned_decoder const_decoder skip_decoder
    bytes_decoder
written_0 = (refl, refl)

row_1 : List ℕ
row_1 = 0 ∷ 0 ∷ 1 ∷ 35 ∷ []

refused_1 : sure_answer ((j1939_frame_decoder High).reads 0 (bits High row_1)) ≡ Ok (Err OtherFrame)
unfolding row_1 and_then digits digits_number bytes_of unsigned unsigned_decoder const_decoder skip_decoder
    bytes_decoder
refused_1 = refl
