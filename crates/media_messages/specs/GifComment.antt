-- A comment of a GIF image (GIF89a, section 24).
use Rattle.media_messages.specs.declared.gif_comment.GifComment.{GifComment}
use Rattle.media_messages.specs.declared.gif_comment.GifCommentError.{GifCommentError}
use Rattle.media_messages.specs.declared.gif_comment.GifCommentError.TheVariants.{Reader, NoExtension, NoComment}
use Rattle.std.proofs.Common.{refl}
use Rattle.bitstream_format.specs.Format.{◌>>=◌, Own as OwnFormat, Parts as FormatParts, format, named, field, const, ◌&◌, own_done}
use Rattle.std.specs.Prelude.{◌≡◌, ◌^◌, ◌<◌, ◌++◌, ◌∷◌, [], ℕ, Bool, List, Result, Ok, length}
use Rattle.std.specs.List.{All}
use Rattle.bitstream_io.specs.Callers.{Decoder, Encoder, Error, Order, High, align, write_sequence}
use Rattle.bitstream_format.specs.Blocks.{IsBlock}
use Rattle.bitstream_format.specs.Atoms as atom

-- Made by `./format` from formats/gif_comment.fields: edit that file and make this one anew.

-- an error of the reader is one of the type's
abbrev pub becomes_gif_comment : Error → GifCommentError → Type 0
becomes_gif_comment error own = own ≡ Reader error

-- the lines, in order
abbrev pub gif_comment_lines : FormatParts GifComment (Result GifComment GifCommentError) (λ s. Ok s)
gif_comment_lines = do
  constant_0 ← const 8 33 refl NoExtension
  constant_1 ← const 8 254 refl NoComment
  text ← field atom.blocks (λ s. s.text)
  own_done (record { text = text })

-- the reads, in order
abbrev pub gif_comment_decoder : Order → Decoder (Result GifComment GifCommentError)
gif_comment_decoder o = gif_comment_lines.read o

-- the writes, in order
abbrev pub gif_comment_writes : Order → GifComment → List Encoder
gif_comment_writes o value = gif_comment_lines.write o value

-- each field fits its bits
pub record Fits (value : GifComment) : Type 0 where
  pub text : All IsBlock value.text
  pub text_most : length value.text < 2 ^ 32

-- the number of bits
abbrev pub gif_comment_size : Order → GifComment → ℕ
gif_comment_size o value = gif_comment_lines.size value

-- the format, with the facts that must fit by name
abbrev pub gif_comment_format : OwnFormat GifCommentError GifComment
gif_comment_format = named Fits (format gif_comment_lines (λ s. refl {a = s}))
    (λ s fits. fits.text & fits.text_most)

-- the bits of all fields, up to a whole byte
unfoldable pub gif_comment_bits : GifComment → List Bool
gif_comment_bits value = write_sequence (gif_comment_writes High value ++ align ∷ []) 0
