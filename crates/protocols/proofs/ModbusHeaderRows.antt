-- Made by `./format` from formats/modbus_header.fields: edit that file and make this one anew.
-- Worked rows of a `ModbusHeader`.
use Rattle.protocols.specs.ModbusHeader.{modbus_header_decoder, modbus_header_writes}
use Rattle.bitstream_io.specs.Codec.{and_then}
use Rattle.bitstream_io.specs.Word.{digits, digits_number}
use Rattle.bitstream_io.specs.WriteTable.{unsigned}
use Rattle.bitstream_io.specs.ReadTable.{unsigned_decoder, const_decoder}
use Rattle.protocols.specs.declared.modbus_header.ModbusHeader.{ModbusHeader}
use Rattle.protocols.specs.declared.modbus_header.ModbusError.TheVariants.{OtherProtocol}
use Rattle.std.proofs.Common.{◌≡◌, ◌++◌, ◌∷◌, [], ℕ, true, false, List, Ok, Err, length, refl}
use Rattle.bitstream_io.specs.Callers.{Done, EndOfInput, High, bits, align, write_sequence, sure_answer}

row_0 : List ℕ
row_0 = 21 ∷ 1 ∷ 0 ∷ 0 ∷ 0 ∷ 6 ∷ 255 ∷ 4 ∷ []

value_0 : ModbusHeader
value_0 = record {
  transaction = 5377;
  size = 6;
  unit = 255;
  refused = false;
  function = 4;
}

written_0 : (write_sequence (modbus_header_writes High value_0 ++ align ∷ []) 0 ≡ bits High row_0)
    × ((modbus_header_decoder High).reads 0 (bits High row_0)
    ≡ Done (length (write_sequence (modbus_header_writes High value_0) 0)) (Ok (Ok value_0)))
unfolding row_0 value_0 and_then digits digits_number unsigned unsigned_decoder const_decoder
written_0 = (refl, refl)

row_1 : List ℕ
row_1 = 21 ∷ 1 ∷ 0 ∷ 0 ∷ 0 ∷ 3 ∷ 255 ∷ 132 ∷ []

value_1 : ModbusHeader
value_1 = record {
  transaction = 5377;
  size = 3;
  unit = 255;
  refused = true;
  function = 4;
}

written_1 : (write_sequence (modbus_header_writes High value_1 ++ align ∷ []) 0 ≡ bits High row_1)
    × ((modbus_header_decoder High).reads 0 (bits High row_1)
    ≡ Done (length (write_sequence (modbus_header_writes High value_1) 0)) (Ok (Ok value_1)))
unfolding row_1 value_1 and_then digits digits_number unsigned unsigned_decoder const_decoder
written_1 = (refl, refl)

row_2 : List ℕ
row_2 = 21 ∷ 1 ∷ 0 ∷ 1 ∷ []

refused_2 : sure_answer ((modbus_header_decoder High).reads 0 (bits High row_2)) ≡ Ok (Err OtherProtocol)
unfolding row_2 and_then digits digits_number unsigned unsigned_decoder const_decoder
refused_2 = refl

row_3 : List ℕ
row_3 = 21 ∷ 1 ∷ 0 ∷ 0 ∷ 0 ∷ 6 ∷ 255 ∷ []

refused_3 : sure_answer ((modbus_header_decoder High).reads 0 (bits High row_3)) ≡ Err EndOfInput
unfolding row_3 and_then digits digits_number unsigned unsigned_decoder const_decoder
refused_3 = refl
