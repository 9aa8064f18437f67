-- The Vorbis comment of a FLAC file.
use Rattle.std.specs.Prelude.{◌≡◌, ◌<◌, ◌^◌, ℕ, true, if◌then◌else◌, List, ◌++◌, length, Result, Ok, Err}
use Rattle.std.specs.List.{All, flat_map}
use Rattle.std.specs.Str.{is_utf8}
use Rattle.bitstream_io.specs.ByteGrows.{byte_part_then, byte_parts}
use Rattle.bitstream_io.specs.ByteReads.{ByteDecoder, vec_bytes}
use Rattle.bitstream_io.specs.ByteSteps.{◌>>=◌, number_bytes}
use Rattle.bitstream_io.specs.ByteTypes.{byte_pure}
use Rattle.bitstream_io.specs.Callers.{Error, Low, bytes}
use Rattle.bitstream_callers.specs.VorbisTexts.{Comment}
use Rattle.bitstream_callers.specs.declared.vorbis_comment.CommentError.{CommentError}
use Rattle.bitstream_callers.specs.declared.vorbis_comment.CommentError.TheVariants.{Reader, NotText}

-- an error of the reader is one of the type's
abbrev pub becomes_reader : Error → CommentError → Type 0
becomes_reader error own = own ≡ Reader error

-- a length in four bytes, the least significant first, and then that number of bytes, which must be UTF-8
abbrev pub text_reads : ByteDecoder (Result (List ℕ) CommentError)
text_reads = do
  size ← number_bytes Low 4
  text ← vec_bytes size
  byte_pure (if is_utf8 text then Ok text else Err NotText)

-- `count` texts, after the vendor's
abbrev pub texts_reads : List ℕ → ℕ → ByteDecoder (Result Comment CommentError)
texts_reads vendor count = byte_parts text_reads count >>= byte_part_then (λ comments.
    byte_pure (Ok (record { vendor = vendor; comments = comments })))

-- the vendor's text, the number of the others in four bytes, and these
abbrev pub comment_reads : ByteDecoder (Result Comment CommentError)
comment_reads = text_reads >>= byte_part_then (λ vendor. number_bytes Low 4 >>= texts_reads vendor)

-- the bytes of a text: its length, and it
abbrev pub text_bytes : List ℕ → List ℕ
text_bytes text = bytes Low 4 (length text) ++ text

-- the bytes of a comment
abbrev pub comment_bytes : Comment → List ℕ
comment_bytes comment = text_bytes comment.vendor
    ++ (bytes Low 4 (length comment.comments) ++ flat_map text_bytes comment.comments)

-- a text that is UTF-8, and whose length fits four bytes
abbrev pub IsText : List ℕ → Type 0
IsText text = (is_utf8 text ≡ true) × (length text < 2 ^ 32)

-- so are all texts, and the number of them
pub record IsComment (comment : Comment) : Type 0 where
  pub vendor : IsText comment.vendor
  pub comments : All IsText comment.comments
  pub count : length comment.comments < 2 ^ 32
