-- Made by `./format` from formats/hello.fields: edit that file and make this one anew.
-- Worked rows of a `Hello`.
use Rattle.bitstream_messages.specs.Hello.{hello_decoder, hello_writes}
use Rattle.bitstream_io.specs.Codec.{and_then}
use Rattle.bitstream_io.specs.Word.{digits, digits_number, bytes_of}
use Rattle.bitstream_io.specs.WriteTable.{unsigned}
use Rattle.bitstream_io.specs.ReadTable.{unsigned_decoder, const_decoder, bytes_decoder}
use Rattle.bitstream_format.specs.Within.{size_encoder}
use Rattle.bitstream_messages.specs.declared.extension.Body.TheVariants.{ExtendedSecret as ExtensionBodyExtendedSecret, Other as ExtensionBodyOther}
use Rattle.bitstream_messages.specs.declared.hello.Hello.{Hello}
use Rattle.bitstream_messages.specs.declared.hello.HelloError.TheVariants.{OtherMessage}
use Rattle.std.proofs.Common.{◌≡◌, ◌++◌, ◌∷◌, [], ℕ, List, Ok, Err, length, refl}
use Rattle.bitstream_io.specs.Callers.{Done, High, bits, align, write_sequence, sure_answer}

row_0 : List ℕ
row_0 = 1 ∷ 0 ∷ 0 ∷ 103 ∷ 3 ∷ 3 ∷ 243 ∷ 216 ∷ 233 ∷ 132 ∷ 217 ∷ 78 ∷ 242 ∷ 152 ∷ 88 ∷ 16 ∷ 190 ∷ 217 ∷ 100 ∷ 144 ∷ 148 ∷
    163 ∷ 98 ∷ 222 ∷ 190 ∷ 114 ∷ 156 ∷ 148 ∷ 38 ∷ 60 ∷ 157 ∷ 101 ∷ 204 ∷ 27 ∷ 27 ∷ 2 ∷ 220 ∷ 91 ∷ 0 ∷ 0 ∷ 4 ∷ 192 ∷ 47 ∷
    0 ∷ 255 ∷ 1 ∷ 0 ∷ 0 ∷ 58 ∷ 0 ∷ 0 ∷ 0 ∷ 16 ∷ 0 ∷ 14 ∷ 0 ∷ 0 ∷ 11 ∷ 101 ∷ 120 ∷ 97 ∷ 109 ∷ 112 ∷ 108 ∷ 101 ∷ 46 ∷ 111
    ∷ 114 ∷ 103 ∷ 0 ∷ 11 ∷ 0 ∷ 4 ∷ 3 ∷ 0 ∷ 1 ∷ 2 ∷ 0 ∷ 10 ∷ 0 ∷ 4 ∷ 0 ∷ 2 ∷ 0 ∷ 29 ∷ 0 ∷ 35 ∷ 0 ∷ 0 ∷ 0 ∷ 22 ∷ 0 ∷ 0 ∷ 0
    ∷ 23 ∷ 0 ∷ 0 ∷ 0 ∷ 13 ∷ 0 ∷ 6 ∷ 0 ∷ 4 ∷ 4 ∷ 1 ∷ 4 ∷ 3 ∷ []

value_0 : Hello
value_0 = record {
  length = 103;
  version = 771;
  random = 243 ∷ 216 ∷ 233 ∷ 132 ∷ 217 ∷ 78 ∷ 242 ∷ 152 ∷ 88 ∷ 16 ∷ 190 ∷ 217 ∷ 100 ∷ 144 ∷ 148 ∷ 163 ∷ 98 ∷ 222 ∷ 190 ∷
      114 ∷ 156 ∷ 148 ∷ 38 ∷ 60 ∷ 157 ∷ 101 ∷ 204 ∷ 27 ∷ 27 ∷ 2 ∷ 220 ∷ 91 ∷ [];
  session = [];
  suites = 192 ∷ 47 ∷ 0 ∷ 255 ∷ [];
  compressions = 0 ∷ [];
  extensions = record {
    items = (record {
      body = ExtensionBodyOther (record {
        number = 0;
        bytes = 0 ∷ 14 ∷ 0 ∷ 0 ∷ 11 ∷
            101 ∷ 120 ∷ 97 ∷ 109 ∷ 112 ∷ 108 ∷ 101 ∷ 46 ∷ 111 ∷ 114 ∷ 103 ∷ [];
      });
    }) ∷ (record {
      body = ExtensionBodyOther
          (record { number = 11; bytes = 3 ∷ 0 ∷ 1 ∷ 2 ∷ [] });
    }) ∷ (record {
      body = ExtensionBodyOther (record {
        number =
            10;
        bytes = 0 ∷ 2 ∷ 0 ∷ 29 ∷ [];
      });
    }) ∷ (record {
      body = ExtensionBodyOther (record { number = 35; bytes = [] });
    }) ∷ (record { body = ExtensionBodyOther (record { number = 22; bytes = [] }) }) ∷ (record {
      body =
          ExtensionBodyExtendedSecret;
    }) ∷ (record {
      body = ExtensionBodyOther (record {
        number = 13;
        bytes = 0 ∷ 4 ∷ 4 ∷ 1
            ∷ 4 ∷ 3 ∷ [];
      });
    }) ∷ [];
  };
}

written_0 : (write_sequence (hello_writes High value_0 ++ align ∷ []) 0 ≡ bits High row_0)
    × ((hello_decoder High).reads 0 (bits High row_0)
    ≡ Done (length (write_sequence (hello_writes High value_0) 0)) (Ok (Ok value_0)))
unfolding row_0 value_0 and_then digits digits_number bytes_of unsigned unsigned_decoder const_decoder bytes_decoder
    size_encoder
written_0 = (refl, refl)

row_1 : List ℕ
row_1 = 2 ∷ 0 ∷ 0 ∷ 44 ∷ []

refused_1 : sure_answer ((hello_decoder High).reads 0 (bits High row_1)) ≡ Ok (Err OtherMessage)
unfolding row_1 and_then digits digits_number bytes_of unsigned unsigned_decoder const_decoder bytes_decoder
    size_encoder
refused_1 = refl
