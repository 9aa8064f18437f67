-- Made by `./format` from formats/adsb_frame.fields: edit that file and make this one anew.
-- Worked rows of an `AdsbFrame`.
use Rattle.network_messages.specs.AdsbFrame.{adsb_frame_decoder, adsb_frame_writes}
use Rattle.bitstream_io.specs.Codec.{and_then}
use Rattle.bitstream_io.specs.Word.{digits, digits_number, bytes_of}
use Rattle.bitstream_io.specs.WriteTable.{unsigned}
use Rattle.bitstream_io.specs.ReadTable.{unsigned_decoder, const_decoder}
use Rattle.bitstream_format.specs.Checks.{crc_over, steps}
use Rattle.bitstream_format.specs.Summed.{lines_sum, whole_bytes}
use Rattle.network_messages.specs.declared.adsb_frame.AdsbFrame.{AdsbFrame}
use Rattle.network_messages.specs.declared.adsb_frame.AdsbFrameError.TheVariants.{OtherFormat, WrongCrc}
use Rattle.std.proofs.Common.{◌≡◌, ◌++◌, ◌∷◌, [], ℕ, List, Ok, Err, length, refl}
use Rattle.bitstream_io.specs.Callers.{Done, High, bits, align, write_sequence, sure_answer}

row_0 : List ℕ
row_0 = 141 ∷ 72 ∷ 64 ∷ 214 ∷ 32 ∷ 44 ∷ 195 ∷ 113 ∷ 195 ∷ 44 ∷ 224 ∷ 87 ∷ 96 ∷ 152 ∷ []

value_0 : AdsbFrame
value_0 = record {
  capability = 5;
  aircraft = 4735190;
  kind = 4;
  message = 49217938861280;
}

written_0 : (write_sequence (adsb_frame_writes High value_0 ++ align ∷ []) 0 ≡ bits High row_0)
    × ((adsb_frame_decoder High).reads 0 (bits High row_0)
    ≡ Done (length (write_sequence (adsb_frame_writes High value_0) 0)) (Ok (Ok value_0)))
unfolding row_0 value_0 and_then digits digits_number bytes_of unsigned unsigned_decoder const_decoder crc_over steps
    lines_sum whole_bytes
written_0 = (refl, refl)

row_1 : List ℕ
row_1 = 141 ∷ 64 ∷ 98 ∷ 29 ∷ 88 ∷ 195 ∷ 130 ∷ 214 ∷ 144 ∷ 200 ∷ 172 ∷ 40 ∷ 99 ∷ 167 ∷ []

value_1 : AdsbFrame
value_1 = record {
  capability = 5;
  aircraft = 4219421;
  kind = 11;
  message = 214966712977580;
}

written_1 : (write_sequence (adsb_frame_writes High value_1 ++ align ∷ []) 0 ≡ bits High row_1)
    × ((adsb_frame_decoder High).reads 0 (bits High row_1)
    ≡ Done (length (write_sequence (adsb_frame_writes High value_1) 0)) (Ok (Ok value_1)))
unfolding row_1 value_1 and_then digits digits_number bytes_of unsigned unsigned_decoder const_decoder crc_over steps
    lines_sum whole_bytes
written_1 = (refl, refl)

row_2 : List ℕ
row_2 = 141 ∷ 64 ∷ 98 ∷ 29 ∷ 88 ∷ 195 ∷ 130 ∷ 214 ∷ 144 ∷ 200 ∷ 173 ∷ 40 ∷ 99 ∷ 167 ∷ []

refused_2 : sure_answer ((adsb_frame_decoder High).reads 0 (bits High row_2)) ≡ Ok (Err WrongCrc)
unfolding row_2 and_then digits digits_number bytes_of unsigned unsigned_decoder const_decoder crc_over steps lines_sum
    whole_bytes
refused_2 = refl

row_3 : List ℕ
row_3 = 93 ∷ 72 ∷ 64 ∷ 214 ∷ []

refused_3 : sure_answer ((adsb_frame_decoder High).reads 0 (bits High row_3)) ≡ Ok (Err OtherFormat)
unfolding row_3 and_then digits digits_number bytes_of unsigned unsigned_decoder const_decoder crc_over steps lines_sum
    whole_bytes
refused_3 = refl
