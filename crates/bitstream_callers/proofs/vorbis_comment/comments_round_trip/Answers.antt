use Rattle.std.proofs.Common.{◌≡◌, ◌<◌, ◌^◌, ℕ, List, [], ◌++◌, length, Result, Ok, Err, refl, subst, append-nil}
use Rattle.std.specs.List.{All, flat_map}
use Rattle.std.specs.Prelude.{if◌then◌else◌}
use Rattle.std.specs.Str.{is_utf8}
use Rattle.std.proofs.lemmas.List.Elements.{All-weaker}
use Rattle.bitstream_io.specs.ByteGrows.{byte_parts}
use Rattle.bitstream_io.specs.ByteReads.{vec_bytes}
use Rattle.bitstream_io.specs.ByteSteps.{number_bytes}
use Rattle.bitstream_io.specs.ByteTypes.{byte_and_then, byte_pure}
use Rattle.bitstream_io.specs.Word.{Low, bytes}
use Rattle.bitstream_io.proofs.ByteBackLemmas.{BytesBack, given-back, nothing-back, and_then-back, made-back, number-back, byte_part-back, byte_parts-back}
use Rattle.bitstream_callers.specs.VorbisComment.{IsText, text_bytes, text_reads, texts_reads}
use Rattle.bitstream_callers.specs.VorbisTexts.{Comment}
use Rattle.bitstream_callers.specs.declared.vorbis_comment.CommentError.{CommentError}
use Rattle.bitstream_callers.specs.declared.vorbis_comment.CommentError.TheVariants.{NotText}
use Rattle.bitstream_callers.proofs.vorbis_comment.comments_round_trip.Goals as goal

length_back : (n : ℕ) → n < 2 ^ 32 → BytesBack (number_bytes Low 4) (bytes Low 4 n) n
length_back n fits = number-back Low 4 n fits

checked : List ℕ → Result (List ℕ) CommentError
checked text = if is_utf8 text then Ok text else Err NotText

text_back : (text : List ℕ) → IsText text → BytesBack text_reads (text_bytes text) (Ok text)
unfolding checked
text_back text is =
    let right : checked text ≡ Ok text = rw is.0 refl in
    let behind : BytesBack (byte_and_then (vec_bytes (length text)) (λ t. byte_pure (checked t))) text (Ok text) =
    subst (BytesBack (byte_and_then (vec_bytes (length text)) (λ t. byte_pure (checked t))) text) right
    (made-back (vec_bytes (length text)) checked text text (given-back (length text) text refl)) in
    and_then-back (number_bytes Low 4) (λ size. byte_and_then (vec_bytes size) (λ t. byte_pure (checked t)))
    (bytes Low 4 (length text)) text (length text) (Ok text) (length_back (length text) is.1) behind

texts_back : (vendor : List ℕ) (comments : List (List ℕ)) → All IsText comments
    → BytesBack (texts_reads vendor (length comments)) (flat_map text_bytes comments)
    (Ok (record { vendor = vendor; comments = comments }))
texts_back vendor comments all =
    let parts = byte_parts-back text_reads text_bytes comments
    (All-weaker IsText (λ x. BytesBack text_reads (text_bytes x) (Ok x)) text_back comments all) in
    let make = λ (texts : List (List ℕ)). byte_pure {A = Result Comment CommentError}
    (Ok (record { vendor = vendor; comments = texts })) in
    let whole = byte_part-back (byte_parts text_reads (length comments)) make (flat_map text_bytes comments) [] comments
    (Ok (record { vendor = vendor; comments = comments })) parts
    (nothing-back (Ok (record { vendor = vendor; comments = comments }))) in
    subst (λ w. BytesBack (texts_reads vendor (length comments)) w (Ok (record { vendor = vendor; comments = comments })))
    (append-nil (flat_map text_bytes comments)) whole

pub returns : goal.returns
returns c = λ comment more is.
    byte_part-back text_reads (λ vendor. byte_and_then (number_bytes Low 4) (texts_reads vendor))
    (text_bytes comment.vendor) (bytes Low 4 (length comment.comments) ++ flat_map text_bytes comment.comments)
    comment.vendor (Ok comment) (text_back comment.vendor is.vendor)
    (and_then-back (number_bytes Low 4) (texts_reads comment.vendor) (bytes Low 4 (length comment.comments))
    (flat_map text_bytes comment.comments) (length comment.comments) (Ok comment)
    (length_back (length comment.comments) is.count) (texts_back comment.vendor comment.comments is.comments)) more
