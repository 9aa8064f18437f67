-- Made by `./format` from formats/adsb_message.fields: edit that file and make this one anew.
-- Worked rows of an `AdsbMessage`.
use Rattle.protocols.specs.AdsbMessage.{adsb_message_decoder, adsb_message_writes}
use Rattle.bitstream_io.specs.Codec.{and_then}
use Rattle.bitstream_io.specs.Word.{digits, digits_number}
use Rattle.bitstream_io.specs.WriteTable.{unsigned}
use Rattle.bitstream_io.specs.ReadTable.{unsigned_decoder, const_decoder}
use Rattle.protocols.specs.declared.adsb_message.AdsbMessage.{AdsbMessage}
use Rattle.protocols.specs.declared.adsb_message.AdsbError.TheVariants.{OtherFormat}
use Rattle.std.proofs.Common.{◌≡◌, ◌++◌, ◌∷◌, [], ℕ, List, Ok, Err, length, refl}
use Rattle.bitstream_io.specs.Callers.{Done, High, bits, align, write_sequence, sure_answer}

row_0 : List ℕ
row_0 = 141 ∷ 72 ∷ 64 ∷ 214 ∷ 32 ∷ 44 ∷ 195 ∷ 113 ∷ 195 ∷ 44 ∷ 224 ∷ 87 ∷ 96 ∷ 152 ∷ []

value_0 : AdsbMessage
value_0 = record {
  capability = 5;
  aircraft = 4735190;
  kind = 4;
  message = 49217938861280;
  parity = 5726360;
}

written_0 : (write_sequence (adsb_message_writes High value_0 ++ align ∷ []) 0 ≡ bits High row_0)
    × ((adsb_message_decoder High).reads 0 (bits High row_0)
    ≡ Done (length (write_sequence (adsb_message_writes High value_0) 0)) (Ok (Ok value_0)))
unfolding row_0 value_0 and_then digits digits_number unsigned unsigned_decoder const_decoder
written_0 = (refl, refl)

row_1 : List ℕ
row_1 = 141 ∷ 64 ∷ 98 ∷ 29 ∷ 88 ∷ 195 ∷ 130 ∷ 214 ∷ 144 ∷ 200 ∷ 172 ∷ 40 ∷ 99 ∷ 167 ∷ []

value_1 : AdsbMessage
value_1 = record {
  capability = 5;
  aircraft = 4219421;
  kind = 11;
  message = 214966712977580;
  parity = 2646951;
}

written_1 : (write_sequence (adsb_message_writes High value_1 ++ align ∷ []) 0 ≡ bits High row_1)
    × ((adsb_message_decoder High).reads 0 (bits High row_1)
    ≡ Done (length (write_sequence (adsb_message_writes High value_1) 0)) (Ok (Ok value_1)))
unfolding row_1 value_1 and_then digits digits_number unsigned unsigned_decoder const_decoder
written_1 = (refl, refl)

row_2 : List ℕ
row_2 = 93 ∷ 72 ∷ 64 ∷ 214 ∷ []

refused_2 : sure_answer ((adsb_message_decoder High).reads 0 (bits High row_2)) ≡ Ok (Err OtherFormat)
unfolding row_2 and_then digits digits_number unsigned unsigned_decoder const_decoder
refused_2 = refl
