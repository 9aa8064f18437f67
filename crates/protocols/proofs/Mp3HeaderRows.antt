-- Made by `./format` from formats/mp3_header.fields: edit that file and make this one anew.
-- Worked rows of a `Mp3Header`.
use Rattle.protocols.specs.Mp3Header.{mp3_header_decoder, mp3_header_writes}
use Rattle.bitstream_io.specs.Codec.{and_then}
use Rattle.bitstream_io.specs.Word.{digits, digits_number}
use Rattle.bitstream_io.specs.WriteTable.{unsigned}
use Rattle.bitstream_io.specs.ReadTable.{unsigned_decoder, const_decoder}
use Rattle.protocols.specs.declared.mp3_header.Mp3Header.{Mp3Header}
use Rattle.protocols.specs.declared.mp3_header.Mp3Error.TheVariants.{NoSync, NoVersion, NoLayer}
use Rattle.protocols.specs.declared.mp3_header.Version.TheVariants.{Mpeg1}
use Rattle.protocols.specs.declared.mp3_header.Layer.TheVariants.{LayerThree}
use Rattle.protocols.specs.declared.mp3_header.ChannelMode.TheVariants.{Mono}
use Rattle.std.proofs.Common.{◌≡◌, ◌++◌, ◌∷◌, [], ℕ, true, false, List, Ok, Err, length, refl}
use Rattle.bitstream_io.specs.Callers.{Done, High, bits, align, write_sequence, sure_answer}

row_0 : List ℕ
row_0 = 255 ∷ 251 ∷ 80 ∷ 192 ∷ []

value_0 : Mp3Header
value_0 = record {
  version = Mpeg1;
  layer = LayerThree;
  protection_absent = true;
  bitrate = 5;
  frequency = 0;
  padding = false;
  private = false;
  mode = Mono;
  extension = 0;
  copyright = false;
  original = false;
  emphasis = 0;
}

written_0 : (write_sequence (mp3_header_writes High value_0 ++ align ∷ []) 0 ≡ bits High row_0)
    × ((mp3_header_decoder High).reads 0 (bits High row_0)
    ≡ Done (length (write_sequence (mp3_header_writes High value_0) 0)) (Ok (Ok value_0)))
unfolding row_0 value_0 and_then digits digits_number unsigned unsigned_decoder const_decoder
written_0 = (refl, refl)

row_1 : List ℕ
row_1 = 73 ∷ 68 ∷ 51 ∷ 4 ∷ []

refused_1 : sure_answer ((mp3_header_decoder High).reads 0 (bits High row_1)) ≡ Ok (Err NoSync)
unfolding row_1 and_then digits digits_number unsigned unsigned_decoder const_decoder
refused_1 = refl

row_2 : List ℕ
row_2 = 255 ∷ 234 ∷ []

refused_2 : sure_answer ((mp3_header_decoder High).reads 0 (bits High row_2)) ≡ Ok (Err NoVersion)
unfolding row_2 and_then digits digits_number unsigned unsigned_decoder const_decoder
refused_2 = refl

row_3 : List ℕ
row_3 = 255 ∷ 249 ∷ []

refused_3 : sure_answer ((mp3_header_decoder High).reads 0 (bits High row_3)) ≡ Ok (Err NoLayer)
unfolding row_3 and_then digits digits_number unsigned unsigned_decoder const_decoder
refused_3 = refl
