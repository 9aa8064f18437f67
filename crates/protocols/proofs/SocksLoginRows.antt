-- Made by `./format` from formats/socks_login.fields: edit that file and make this one anew.
-- Worked rows of a `SocksLogin`.
use Rattle.protocols.specs.SocksLogin.{socks_login_decoder, socks_login_writes}
use Rattle.bitstream_io.specs.Codec.{and_then}
use Rattle.bitstream_io.specs.Word.{digits, digits_number, bytes_of}
use Rattle.bitstream_io.specs.WriteTable.{unsigned}
use Rattle.bitstream_io.specs.ReadTable.{unsigned_decoder, const_decoder, bytes_decoder}
use Rattle.bitstream_format.specs.Within.{size_encoder}
use Rattle.protocols.specs.declared.socks_login.SocksLogin.{SocksLogin}
use Rattle.protocols.specs.declared.socks_login.SocksLoginError.TheVariants.{OtherVersion}
use Rattle.std.proofs.Common.{◌≡◌, ◌++◌, ◌∷◌, [], ℕ, List, Ok, Err, length, refl}
use Rattle.bitstream_io.specs.Callers.{Done, EndOfInput, High, bits, align, write_sequence, sure_answer}

row_0 : List ℕ
row_0 = 1 ∷ 4 ∷ 117 ∷ 115 ∷ 101 ∷ 114 ∷ 6 ∷ 115 ∷ 101 ∷ 99 ∷ 114 ∷ 101 ∷ 116 ∷ []

value_0 : SocksLogin
value_0 = record {
  name = 117 ∷ 115 ∷ 101 ∷ 114 ∷ [];
  password = 115 ∷ 101 ∷ 99 ∷ 114 ∷ 101 ∷ 116 ∷ [];
}

written_0 : (write_sequence (socks_login_writes High value_0 ++ align ∷ []) 0 ≡ bits High row_0)
    × ((socks_login_decoder High).reads 0 (bits High row_0)
    ≡ Done (length (write_sequence (socks_login_writes High value_0) 0)) (Ok (Ok value_0)))
unfolding row_0 value_0 and_then digits digits_number bytes_of unsigned unsigned_decoder const_decoder bytes_decoder
    size_encoder
written_0 = (refl, refl)

row_1 : List ℕ
row_1 = 1 ∷ 0 ∷ 0 ∷ []

value_1 : SocksLogin
value_1 = record {
  name = [];
  password = [];
}

written_1 : (write_sequence (socks_login_writes High value_1 ++ align ∷ []) 0 ≡ bits High row_1)
    × ((socks_login_decoder High).reads 0 (bits High row_1)
    ≡ Done (length (write_sequence (socks_login_writes High value_1) 0)) (Ok (Ok value_1)))
unfolding row_1 value_1 and_then digits digits_number bytes_of unsigned unsigned_decoder const_decoder bytes_decoder
    size_encoder
written_1 = (refl, refl)

row_2 : List ℕ
row_2 = 5 ∷ 1 ∷ 0 ∷ []

refused_2 : sure_answer ((socks_login_decoder High).reads 0 (bits High row_2)) ≡ Ok (Err OtherVersion)
unfolding row_2 and_then digits digits_number bytes_of unsigned unsigned_decoder const_decoder bytes_decoder
    size_encoder
refused_2 = refl

row_3 : List ℕ
row_3 = 1 ∷ 4 ∷ 117 ∷ 115 ∷ []

refused_3 : sure_answer ((socks_login_decoder High).reads 0 (bits High row_3)) ≡ Err EndOfInput
unfolding row_3 and_then digits digits_number bytes_of unsigned unsigned_decoder const_decoder bytes_decoder
    size_encoder
refused_3 = refl
