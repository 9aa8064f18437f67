-- Made by `./format` from formats/client_hello.fields: edit that file and make this one anew.
-- Worked rows of a `ClientHello`.
use Rattle.bitstream_callers.specs.ClientHello.{client_hello_decoder, client_hello_writes}
use Rattle.bitstream_io.specs.Codec.{and_then}
use Rattle.bitstream_io.specs.Word.{digits, digits_number, bytes_of}
use Rattle.bitstream_io.specs.WriteTable.{unsigned}
use Rattle.bitstream_io.specs.ReadTable.{unsigned_decoder, const_decoder, bytes_decoder}
use Rattle.bitstream_io.specs.Grows.{parts_decoder}
use Rattle.bitstream_callers.specs.declared.client_hello.ClientHello.{ClientHello}
use Rattle.bitstream_callers.specs.declared.client_hello.ClientHelloError.TheVariants.{OtherMessage, NoCompression}
use Rattle.bitstream_callers.specs.declared.client_hello.Compression.TheVariants.{Null}
use Rattle.std.proofs.Common.{◌≡◌, ◌++◌, ◌∷◌, [], ℕ, List, Ok, Err, length, refl}
use Rattle.bitstream_io.specs.Callers.{Done, High, bits, align, write_sequence, sure_answer}

row_0 : List ℕ
row_0 = 1 ∷ 0 ∷ 0 ∷ 103 ∷ 3 ∷ 3 ∷ 30 ∷ 95 ∷ 30 ∷ 124 ∷ 190 ∷ 117 ∷ 123 ∷ 212 ∷ 9 ∷ 228 ∷ 18 ∷ 77 ∷ 107 ∷ 239 ∷ 244 ∷ 80
    ∷ 89 ∷ 192 ∷ 65 ∷ 58 ∷ 242 ∷ 241 ∷ 151 ∷ 39 ∷ 0 ∷ 178 ∷ 254 ∷ 155 ∷ 34 ∷ 120 ∷ 213 ∷ 131 ∷ 0 ∷ 0 ∷ 4 ∷ 0 ∷ 47 ∷ 0 ∷
    255 ∷ 1 ∷ 0 ∷ 0 ∷ 58 ∷ 0 ∷ 35 ∷ 0 ∷ 0 ∷ 0 ∷ 22 ∷ 0 ∷ 0 ∷ 0 ∷ 23 ∷ 0 ∷ 0 ∷ 0 ∷ 13 ∷ 0 ∷ 42 ∷ 0 ∷ 40 ∷ 4 ∷ 3 ∷ 5 ∷ 3 ∷
    6 ∷ 3 ∷ 8 ∷ 7 ∷ 8 ∷ 8 ∷ 8 ∷ 9 ∷ 8 ∷ 10 ∷ 8 ∷ 11 ∷ 8 ∷ 4 ∷ 8 ∷ 5 ∷ 8 ∷ 6 ∷ 4 ∷ 1 ∷ 5 ∷ 1 ∷ 6 ∷ 1 ∷ 3 ∷ 3 ∷ 3 ∷ 1 ∷ 3
    ∷ 2 ∷ 4 ∷ 2 ∷ 5 ∷ 2 ∷ 6 ∷ 2 ∷ []

value_0 : ClientHello
value_0 = record {
  size = 103;
  version = 771;
  random = 30 ∷ 95 ∷ 30 ∷ 124 ∷ 190 ∷ 117 ∷ 123 ∷ 212 ∷ 9 ∷ 228 ∷ 18 ∷ 77 ∷ 107 ∷ 239 ∷ 244 ∷ 80 ∷ 89 ∷ 192 ∷ 65 ∷ 58 ∷
      242 ∷ 241 ∷ 151 ∷ 39 ∷ 0 ∷ 178 ∷ 254 ∷ 155 ∷ 34 ∷ 120 ∷ 213 ∷ 131 ∷ [];
  session = [];
  suites = 0 ∷ 47 ∷ 0 ∷ 255 ∷ [];
  compressions = (Null) ∷ [];
  extensions = 0 ∷ 35 ∷ 0 ∷ 0 ∷ 0 ∷ 22 ∷ 0 ∷ 0 ∷ 0 ∷ 23 ∷ 0 ∷ 0 ∷ 0 ∷ 13 ∷ 0 ∷ 42 ∷ 0 ∷ 40 ∷ 4 ∷ 3 ∷ 5 ∷ 3 ∷ 6 ∷ 3 ∷ 8 ∷
      7 ∷ 8 ∷ 8 ∷ 8 ∷ 9 ∷ 8 ∷ 10 ∷ 8 ∷ 11 ∷ 8 ∷ 4 ∷ 8 ∷ 5 ∷ 8 ∷ 6 ∷ 4 ∷ 1 ∷ 5 ∷ 1 ∷ 6 ∷ 1 ∷ 3 ∷ 3 ∷ 3 ∷ 1 ∷ 3 ∷ 2 ∷ 4 ∷
      2 ∷ 5 ∷ 2 ∷ 6 ∷ 2 ∷ [];
}

written_0 : (write_sequence (client_hello_writes High value_0 ++ align ∷ []) 0 ≡ bits High row_0)
    × ((client_hello_decoder High).reads 0 (bits High row_0)
    ≡ Done (length (write_sequence (client_hello_writes High value_0) 0)) (Ok (Ok value_0)))
unfolding row_0 value_0 and_then digits digits_number bytes_of unsigned unsigned_decoder const_decoder bytes_decoder
    parts_decoder
written_0 = (refl, refl)

row_1 : List ℕ
row_1 = 1 ∷ 0 ∷ 0 ∷ 42 ∷ 3 ∷ 3 ∷ 30 ∷ 95 ∷ 30 ∷ 124 ∷ 190 ∷ 117 ∷ 123 ∷ 212 ∷ 9 ∷ 228 ∷ 18 ∷ 77 ∷ 107 ∷ 239 ∷ 244 ∷ 80 ∷
    89 ∷ 192 ∷ 65 ∷ 58 ∷ 242 ∷ 241 ∷ 151 ∷ 39 ∷ 0 ∷ 178 ∷ 254 ∷ 155 ∷ 34 ∷ 120 ∷ 213 ∷ 131 ∷ 0 ∷ 0 ∷ 2 ∷ 0 ∷ 47 ∷ 2 ∷ 0
    ∷ 64 ∷ []

refused_1 : sure_answer ((client_hello_decoder High).reads 0 (bits High row_1)) ≡ Ok (Err NoCompression)
unfolding row_1 and_then digits digits_number bytes_of unsigned unsigned_decoder const_decoder bytes_decoder
    parts_decoder
refused_1 = refl

row_2 : List ℕ
row_2 = 2 ∷ 0 ∷ 0 ∷ 44 ∷ []

refused_2 : sure_answer ((client_hello_decoder High).reads 0 (bits High row_2)) ≡ Ok (Err OtherMessage)
unfolding row_2 and_then digits digits_number bytes_of unsigned unsigned_decoder const_decoder bytes_decoder
    parts_decoder
refused_2 = refl
