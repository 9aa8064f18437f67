-- Made by `./format` from formats/gif_comment.fields: edit that file and make this one anew.
-- Worked rows of a `GifComment`.
use Rattle.media_messages.specs.GifComment.{gif_comment_decoder, gif_comment_writes}
use Rattle.bitstream_io.specs.Codec.{and_then}
use Rattle.bitstream_io.specs.Word.{digits, digits_number, bytes_of}
use Rattle.bitstream_io.specs.WriteTable.{unsigned}
use Rattle.bitstream_io.specs.ReadTable.{unsigned_decoder, const_decoder, bytes_decoder}
use Rattle.bitstream_format.specs.Blocks.{blocks_from}
use Rattle.media_messages.specs.declared.gif_comment.GifComment.{GifComment}
use Rattle.media_messages.specs.declared.gif_comment.GifCommentError.TheVariants.{NoComment}
use Rattle.std.proofs.Common.{◌≡◌, ◌++◌, ◌∷◌, [], ℕ, List, Ok, Err, length, refl}
use Rattle.bitstream_io.specs.Callers.{Done, EndOfInput, High, bits, align, write_sequence, sure_answer}

row_0 : List ℕ
row_0 = 33 ∷ 254 ∷ 2 ∷ 104 ∷ 105 ∷ 1 ∷ 33 ∷ 0 ∷ []

value_0 : GifComment
value_0 = record {
  text = (104 ∷ 105 ∷ []) ∷ (33 ∷ []) ∷ [];
}

written_0 : (write_sequence (gif_comment_writes High value_0 ++ align ∷ []) 0 ≡ bits High row_0)
    × ((gif_comment_decoder High).reads 0 (bits High row_0)
    ≡ Done (length (write_sequence (gif_comment_writes High value_0) 0)) (Ok (Ok value_0)))
unfolding row_0 value_0 and_then digits digits_number bytes_of unsigned unsigned_decoder const_decoder bytes_decoder
    blocks_from
written_0 = (refl, refl)

row_1 : List ℕ
row_1 = 33 ∷ 254 ∷ 0 ∷ []

value_1 : GifComment
value_1 = record {
  text = [];
}

written_1 : (write_sequence (gif_comment_writes High value_1 ++ align ∷ []) 0 ≡ bits High row_1)
    × ((gif_comment_decoder High).reads 0 (bits High row_1)
    ≡ Done (length (write_sequence (gif_comment_writes High value_1) 0)) (Ok (Ok value_1)))
unfolding row_1 value_1 and_then digits digits_number bytes_of unsigned unsigned_decoder const_decoder bytes_decoder
    blocks_from
written_1 = (refl, refl)

row_2 : List ℕ
row_2 = 33 ∷ 249 ∷ 0 ∷ []

refused_2 : sure_answer ((gif_comment_decoder High).reads 0 (bits High row_2)) ≡ Ok (Err NoComment)
unfolding row_2 and_then digits digits_number bytes_of unsigned unsigned_decoder const_decoder bytes_decoder blocks_from
refused_2 = refl

row_3 : List ℕ
row_3 = 33 ∷ 254 ∷ 2 ∷ 104 ∷ []

refused_3 : sure_answer ((gif_comment_decoder High).reads 0 (bits High row_3)) ≡ Err EndOfInput
unfolding row_3 and_then digits digits_number bytes_of unsigned unsigned_decoder const_decoder bytes_decoder blocks_from
refused_3 = refl
