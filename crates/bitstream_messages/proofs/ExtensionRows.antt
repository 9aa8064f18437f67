-- Made by `./format` from formats/extension.fields: edit that file and make this one anew.
-- Worked rows of an `Extension`.
use Rattle.bitstream_messages.specs.Extension.{extension_decoder, extension_writes}
use Rattle.bitstream_format.specs.Within.{size_encoder}
use Rattle.bitstream_io.specs.Codec.{and_then}
use Rattle.bitstream_io.specs.Word.{digits, digits_number, bytes_of}
use Rattle.bitstream_io.specs.WriteTable.{unsigned}
use Rattle.bitstream_io.specs.ReadTable.{unsigned_decoder, bytes_decoder}
use Rattle.bitstream_messages.specs.declared.extension.Extension.{Extension}
use Rattle.bitstream_messages.specs.declared.extension.ExtensionError.TheVariants.{OtherSize}
use Rattle.bitstream_messages.specs.declared.extension.Body.TheVariants.{ExtendedSecret as BodyExtendedSecret, Renegotiation as BodyRenegotiation, Other as BodyOther}
use Rattle.std.proofs.Common.{◌≡◌, ◌++◌, ◌∷◌, [], ℕ, List, Ok, Err, length, refl}
use Rattle.bitstream_io.specs.Callers.{Done, EndOfInput, High, bits, align, write_sequence, sure_answer}

row_0 : List ℕ
row_0 = 0 ∷ 23 ∷ 0 ∷ 0 ∷ []

value_0 : Extension
value_0 = record {
  body = BodyExtendedSecret;
}

written_0 : (write_sequence (extension_writes High value_0 ++ align ∷ []) 0 ≡ bits High row_0)
    × ((extension_decoder High).reads 0 (bits High row_0)
    ≡ Done (length (write_sequence (extension_writes High value_0) 0)) (Ok (Ok value_0)))
unfolding row_0 value_0 and_then digits digits_number bytes_of unsigned unsigned_decoder bytes_decoder size_encoder
written_0 = (refl, refl)

row_1 : List ℕ
row_1 = 255 ∷ 1 ∷ 0 ∷ 1 ∷ 0 ∷ []

value_1 : Extension
value_1 = record {
  body = BodyRenegotiation (record { key = [] });
}

written_1 : (write_sequence (extension_writes High value_1 ++ align ∷ []) 0 ≡ bits High row_1)
    × ((extension_decoder High).reads 0 (bits High row_1)
    ≡ Done (length (write_sequence (extension_writes High value_1) 0)) (Ok (Ok value_1)))
unfolding row_1 value_1 and_then digits digits_number bytes_of unsigned unsigned_decoder bytes_decoder size_encoder
written_1 = (refl, refl)

row_2 : List ℕ
row_2 = 0 ∷ 22 ∷ 0 ∷ 2 ∷ 222 ∷ 173 ∷ []

value_2 : Extension
value_2 = record {
  body = BodyOther (record { number = 22; bytes = 222 ∷ 173 ∷ [] });
}

written_2 : (write_sequence (extension_writes High value_2 ++ align ∷ []) 0 ≡ bits High row_2)
    × ((extension_decoder High).reads 0 (bits High row_2)
    ≡ Done (length (write_sequence (extension_writes High value_2) 0)) (Ok (Ok value_2)))
unfolding row_2 value_2 and_then digits digits_number bytes_of unsigned unsigned_decoder bytes_decoder size_encoder
written_2 = (refl, refl)

row_3 : List ℕ
row_3 = 255 ∷ 1 ∷ 0 ∷ 3 ∷ 1 ∷ 170 ∷ 0 ∷ []

refused_3 : sure_answer ((extension_decoder High).reads 0 (bits High row_3)) ≡ Ok (Err OtherSize)
unfolding row_3 and_then digits digits_number bytes_of unsigned unsigned_decoder bytes_decoder size_encoder
refused_3 = refl

row_4 : List ℕ
row_4 = 255 ∷ 1 ∷ 0 ∷ 2 ∷ 2 ∷ 170 ∷ 170 ∷ []

refused_4 : sure_answer ((extension_decoder High).reads 0 (bits High row_4)) ≡ Ok (Err OtherSize)
unfolding row_4 and_then digits digits_number bytes_of unsigned unsigned_decoder bytes_decoder size_encoder
refused_4 = refl

row_5 : List ℕ
row_5 = 0 ∷ 23 ∷ 0 ∷ 1 ∷ []

refused_5 : sure_answer ((extension_decoder High).reads 0 (bits High row_5)) ≡ Err EndOfInput
unfolding row_5 and_then digits digits_number bytes_of unsigned unsigned_decoder bytes_decoder size_encoder
refused_5 = refl
