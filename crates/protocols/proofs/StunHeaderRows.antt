-- Made by `./format` from formats/stun_header.fields: edit that file and make this one anew.
-- Worked rows of a `StunHeader`.
use Rattle.protocols.specs.StunHeader.{stun_header_decoder, stun_header_writes}
use Rattle.bitstream_io.specs.Codec.{and_then}
use Rattle.bitstream_io.specs.Word.{digits, digits_number, bytes_of}
use Rattle.bitstream_io.specs.WriteTable.{unsigned}
use Rattle.bitstream_io.specs.ReadTable.{unsigned_decoder, const_decoder, bytes_decoder}
use Rattle.protocols.specs.declared.stun_header.StunHeader.{StunHeader}
use Rattle.protocols.specs.declared.stun_header.StunHeaderError.TheVariants.{NoStun, NoCookie}
use Rattle.std.proofs.Common.{◌≡◌, ◌++◌, ◌∷◌, [], ℕ, List, Ok, Err, length, refl}
use Rattle.bitstream_io.specs.Callers.{Done, High, bits, align, write_sequence, sure_answer}

row_0 : List ℕ
row_0 = 0 ∷ 1 ∷ 0 ∷ 88 ∷ 33 ∷ 18 ∷ 164 ∷ 66 ∷ 183 ∷ 231 ∷ 167 ∷ 1 ∷ 188 ∷ 52 ∷ 214 ∷ 134 ∷ 250 ∷ 135 ∷ 223 ∷ 174 ∷ []

value_0 : StunHeader
value_0 = record {
  kind = 1;
  length = 88;
  id = 183 ∷ 231 ∷ 167 ∷ 1 ∷ 188 ∷ 52 ∷ 214 ∷ 134 ∷ 250 ∷ 135 ∷ 223 ∷ 174 ∷ [];
}

written_0 : (write_sequence (stun_header_writes High value_0 ++ align ∷ []) 0 ≡ bits High row_0)
    × ((stun_header_decoder High).reads 0 (bits High row_0)
    ≡ Done (length (write_sequence (stun_header_writes High value_0) 0)) (Ok (Ok value_0)))
unfolding row_0 value_0 and_then digits digits_number bytes_of unsigned unsigned_decoder const_decoder bytes_decoder
written_0 = (refl, refl)

row_1 : List ℕ
row_1 = 64 ∷ []

refused_1 : sure_answer ((stun_header_decoder High).reads 0 (bits High row_1)) ≡ Ok (Err NoStun)
unfolding row_1 and_then digits digits_number bytes_of unsigned unsigned_decoder const_decoder bytes_decoder
refused_1 = refl

row_2 : List ℕ
row_2 = 0 ∷ 1 ∷ 0 ∷ 88 ∷ 33 ∷ 18 ∷ 164 ∷ 67 ∷ []

refused_2 : sure_answer ((stun_header_decoder High).reads 0 (bits High row_2)) ≡ Ok (Err NoCookie)
unfolding row_2 and_then digits digits_number bytes_of unsigned unsigned_decoder const_decoder bytes_decoder
refused_2 = refl
