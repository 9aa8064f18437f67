-- The picture of a FLAC file.
use Rattle.std.specs.Prelude.{◌<◌, ◌^◌, ℕ, List, [], ◌∷◌, ◌++◌, length, Result, Ok}
use Rattle.std.specs.List.{All}
use Rattle.bitstream_io.specs.Callers.{Decoder, Encoder, pure, Error, unsigned_decoder, vec_decoder, ◌>>=◌, Order, buffer, unsigned}
use Rattle.bitstream_io.specs.Own.{part_then}
use Rattle.bitstream_callers.specs.declared.picture.Picture.{Picture}
use Rattle.bitstream_callers.specs.declared.picture.PictureSize.{PictureSize}

-- bytes after their number in 32 bits
abbrev pub counted_reads : Order → Decoder (Result (List ℕ) Error)
counted_reads o = do
  size ← unsigned_decoder o 32 32
  bytes ← vec_decoder o size
  pure (Ok bytes)

-- the reads of a size, in order
abbrev pub size_reads : Order → Decoder (Result PictureSize Error)
size_reads o = do
  width ← unsigned_decoder o 32 32
  height ← unsigned_decoder o 32 32
  depth ← unsigned_decoder o 32 32
  colors ← unsigned_decoder o 32 32
  pure (Ok (record { width = width; height = height; depth = depth; colors = colors }))

-- the parts of a picture after its kind, in order
abbrev pub parts_reads : Order → ℕ → Decoder (Result Picture Error)
parts_reads o kind = counted_reads o >>= part_then (λ media.
    counted_reads o >>= part_then (λ description.
    size_reads o >>= part_then (λ size.
    counted_reads o >>= part_then (λ image. pure (Ok (record {
      kind = kind;
      media = media;
      description = description;
      size = size;
      image = image;
    }))))))

-- the kind of a picture, and its parts
abbrev pub picture_reads : Order → Decoder (Result Picture Error)
picture_reads o = do
  kind ← unsigned_decoder o 32 32
  parts_reads o kind

-- the number of bytes in 32 bits, and they
abbrev pub counted_writes : Order → List ℕ → List Encoder
counted_writes o bytes = unsigned o 64 32 (length bytes) ∷ buffer o bytes ∷ []

-- the writes of a size, in order
abbrev pub size_writes : Order → PictureSize → List Encoder
size_writes o size =
    unsigned o 32 32 size.width ∷ unsigned o 32 32 size.height ∷ unsigned o 32 32 size.depth
    ∷ unsigned o 32 32 size.colors ∷ []

-- the writes of a picture, in order
abbrev pub picture_writes : Order → Picture → List Encoder
picture_writes o picture =
    unsigned o 32 32 picture.kind ∷ (counted_writes o picture.media ++ (counted_writes o picture.description
    ++ (size_writes o picture.size ++ counted_writes o picture.image)))

-- bytes, and fewer of them than 2^32
pub record IsCounted (bytes : List ℕ) : Type 0 where
  pub count : length bytes < 2 ^ 32
  pub each : All (λ byte. byte < 256) bytes

-- each number fits its bits, and so do the counts of the bytes
pub record IsPicture (picture : Picture) : Type 0 where
  pub kind : picture.kind < 2 ^ 32
  pub media : IsCounted picture.media
  pub description : IsCounted picture.description
  pub width : picture.size.width < 2 ^ 32
  pub height : picture.size.height < 2 ^ 32
  pub depth : picture.size.depth < 2 ^ 32
  pub colors : picture.size.colors < 2 ^ 32
  pub image : IsCounted picture.image
