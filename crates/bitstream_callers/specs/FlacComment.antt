-- The Vorbis comment of a FLAC file, read from bits.
use Rattle.std.specs.Prelude.{ℕ, List, if◌then◌else◌, Result, Ok, Err}
use Rattle.std.specs.Str.{is_utf8}
use Rattle.bitstream_io.specs.Callers.{Decoder, pure, bytes_number, parts_decoder, part_then, vec_decoder, ◌>>=◌, Order, Low}
use Rattle.bitstream_callers.specs.VorbisTexts.{Comment}
use Rattle.bitstream_callers.specs.declared.vorbis_comment.CommentError.{CommentError}
use Rattle.bitstream_callers.specs.declared.vorbis_comment.CommentError.TheVariants.{NotText}

-- a length in four bytes, the least significant first, and then that number of bytes, which must be UTF-8
abbrev pub text_reads : Order → Decoder (Result (List ℕ) CommentError)
text_reads o = do
  size ← bytes_number o Low 4
  text ← vec_decoder o size
  pure (if is_utf8 text then Ok text else Err NotText)

-- `count` texts, after the vendor's
abbrev pub texts_reads : Order → List ℕ → ℕ → Decoder (Result Comment CommentError)
texts_reads o vendor count = parts_decoder (text_reads o) count >>= part_then (λ comments.
    pure (Ok (record { vendor = vendor; comments = comments })))

-- the vendor's text, the number of the others in four bytes, and these
abbrev pub comment_reads : Order → Decoder (Result Comment CommentError)
comment_reads o = text_reads o >>= part_then (λ vendor. bytes_number o Low 4 >>= texts_reads o vendor)
