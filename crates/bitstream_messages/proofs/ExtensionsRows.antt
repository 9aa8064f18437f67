-- Made by `./format` from formats/extensions.fields: edit that file and make this one anew.
-- Worked rows of an `Extensions`.
use Rattle.bitstream_messages.specs.Extensions.{extensions_decoder, extensions_writes}
use Rattle.bitstream_format.specs.Within.{size_encoder}
use Rattle.bitstream_io.specs.Codec.{and_then}
use Rattle.bitstream_io.specs.Word.{digits, digits_number, bytes_of}
use Rattle.bitstream_io.specs.WriteTable.{unsigned}
use Rattle.bitstream_io.specs.ReadTable.{unsigned_decoder, bytes_decoder}
use Rattle.bitstream_messages.specs.declared.extension.Body.TheVariants.{ExtendedSecret as ExtensionBodyExtendedSecret, Renegotiation as ExtensionBodyRenegotiation, Other as ExtensionBodyOther}
use Rattle.bitstream_messages.specs.declared.extensions.Extensions.{Extensions}
use Rattle.bitstream_messages.specs.declared.extensions.ExtensionsError.TheVariants.{Overlong}
use Rattle.std.proofs.Common.{◌≡◌, ◌++◌, ◌∷◌, [], ℕ, List, Ok, Err, length, refl}
use Rattle.bitstream_io.specs.Callers.{Done, High, bits, align, write_sequence, sure_answer}

row_0 : List ℕ
row_0 = 0 ∷ 58 ∷ 0 ∷ 0 ∷ 0 ∷ 16 ∷ 0 ∷ 14 ∷ 0 ∷ 0 ∷ 11 ∷ 101 ∷ 120 ∷ 97 ∷ 109 ∷ 112 ∷ 108 ∷ 101 ∷ 46 ∷ 111 ∷ 114 ∷ 103 ∷
    0 ∷ 11 ∷ 0 ∷ 4 ∷ 3 ∷ 0 ∷ 1 ∷ 2 ∷ 0 ∷ 10 ∷ 0 ∷ 4 ∷ 0 ∷ 2 ∷ 0 ∷ 29 ∷ 0 ∷ 35 ∷ 0 ∷ 0 ∷ 0 ∷ 22 ∷ 0 ∷ 0 ∷ 0 ∷ 23 ∷ 0 ∷ 0
    ∷ 0 ∷ 13 ∷ 0 ∷ 6 ∷ 0 ∷ 4 ∷ 4 ∷ 1 ∷ 4 ∷ 3 ∷ []

value_0 : Extensions
value_0 = record {
  items = (record {
    body = ExtensionBodyOther (record {
      number = 0;
      bytes = 0 ∷ 14 ∷ 0 ∷ 0 ∷ 11 ∷ 101 ∷ 120 ∷ 97 ∷ 109 ∷
          112 ∷ 108 ∷ 101 ∷ 46 ∷ 111 ∷ 114 ∷ 103 ∷ [];
    });
  }) ∷ (record {
    body = ExtensionBodyOther (record {
      number = 11;
      bytes = 3 ∷ 0 ∷ 1 ∷ 2 ∷ [];
    });
  }) ∷ (record {
    body = ExtensionBodyOther (record {
      number = 10;
      bytes = 0 ∷ 2 ∷ 0 ∷
          29 ∷ [];
    });
  }) ∷ (record { body = ExtensionBodyOther (record { number = 35; bytes = [] }) }) ∷ (record {
    body =
        ExtensionBodyOther (record { number = 22; bytes = [] });
  }) ∷ (record { body = ExtensionBodyExtendedSecret }) ∷
      (record { body = ExtensionBodyOther (record { number = 13; bytes = 0 ∷ 4 ∷ 4 ∷ 1 ∷ 4 ∷ 3 ∷ [] }) }) ∷ [];
}

written_0 : (write_sequence (extensions_writes High value_0 ++ align ∷ []) 0 ≡ bits High row_0)
    × ((extensions_decoder High).reads 0 (bits High row_0)
    ≡ Done (length (write_sequence (extensions_writes High value_0) 0)) (Ok (Ok value_0)))
unfolding row_0 value_0 and_then digits digits_number bytes_of unsigned unsigned_decoder bytes_decoder size_encoder
written_0 = (refl, refl)

row_1 : List ℕ
row_1 = 0 ∷ 9 ∷ 0 ∷ 23 ∷ 0 ∷ 0 ∷ 255 ∷ 1 ∷ 0 ∷ 1 ∷ 0 ∷ []

value_1 : Extensions
value_1 = record {
  items = (record { body = ExtensionBodyExtendedSecret }) ∷ (record {
    body = ExtensionBodyRenegotiation (record {
      key =
          [];
    });
  }) ∷ [];
}

written_1 : (write_sequence (extensions_writes High value_1 ++ align ∷ []) 0 ≡ bits High row_1)
    × ((extensions_decoder High).reads 0 (bits High row_1)
    ≡ Done (length (write_sequence (extensions_writes High value_1) 0)) (Ok (Ok value_1)))
unfolding row_1 value_1 and_then digits digits_number bytes_of unsigned unsigned_decoder bytes_decoder size_encoder
written_1 = (refl, refl)

row_2 : List ℕ
row_2 = 0 ∷ 0 ∷ []

value_2 : Extensions
value_2 = record {
  items = [];
}

written_2 : (write_sequence (extensions_writes High value_2 ++ align ∷ []) 0 ≡ bits High row_2)
    × ((extensions_decoder High).reads 0 (bits High row_2)
    ≡ Done (length (write_sequence (extensions_writes High value_2) 0)) (Ok (Ok value_2)))
unfolding row_2 value_2 and_then digits digits_number bytes_of unsigned unsigned_decoder bytes_decoder size_encoder
written_2 = (refl, refl)

row_3 : List ℕ
row_3 = 0 ∷ 5 ∷ 0 ∷ 23 ∷ 0 ∷ 0 ∷ 255 ∷ 1 ∷ 0 ∷ 1 ∷ 0 ∷ []

refused_3 : sure_answer ((extensions_decoder High).reads 0 (bits High row_3)) ≡ Ok (Err Overlong)
unfolding row_3 and_then digits digits_number bytes_of unsigned unsigned_decoder bytes_decoder size_encoder
refused_3 = refl
