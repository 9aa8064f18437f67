-- The start of a chunk of a RIFF file, as WAV files are.
use Rattle.bitstream_formats.specs.declared.riff_chunk.RiffChunk.{RiffChunk}
use Rattle.std.proofs.Common.{refl}
use Rattle.bitstream_format.specs.Format.{◌>>=◌, Plain as PlainFormat, Parts as FormatParts, format, named, field, ◌&◌, done}
use Rattle.std.specs.Prelude.{◌≡◌, ◌^◌, ◌<◌, ◌++◌, ◌∷◌, [], ℕ, Bool, List, length, take, drop}
use Rattle.std.specs.List.{All}
use Rattle.bitstream_io.specs.Callers.{Decoder, Encoder, Order, Low, number, bytes_of, align, write_sequence}
use Rattle.bitstream_format.specs.Atoms as atom

-- Made by `./format` from formats/riff_chunk.fields: edit that file and make this one anew.

-- n bits after the first k
abbrev pub bits_at : ℕ → ℕ → List Bool → List Bool
bits_at k n bits = take n (drop k bits)

-- the lines, in order
abbrev pub riff_chunk_lines : FormatParts RiffChunk RiffChunk (λ s. s)
riff_chunk_lines = do
  id ← field (atom.bytes 4) (λ s. s.id)
  size ← field (atom.unsigned 32 32 refl) (λ s. s.size)
  done (record { id = id; size = size })

-- the reads, in order
abbrev pub riff_chunk_decoder : Order → Decoder RiffChunk
riff_chunk_decoder o = riff_chunk_lines.read o

-- the writes, in order
abbrev pub riff_chunk_writes : Order → RiffChunk → List Encoder
riff_chunk_writes o value = riff_chunk_lines.write o value

-- each field fits its bits
pub record Fits (value : RiffChunk) : Type 0 where
  pub id_count : length value.id ≡ 4
  pub id : All (λ b. b < 256) value.id
  pub size : value.size < 2 ^ 32

-- the number of bits
abbrev pub riff_chunk_size : Order → RiffChunk → ℕ
riff_chunk_size o value = 64

-- the format, with the facts that must fit by name
abbrev pub riff_chunk_format : PlainFormat RiffChunk
riff_chunk_format = named Fits (format riff_chunk_lines (λ s. refl {a = s}))
    (λ s fits. fits.id_count & fits.id & fits.size)

-- the bits of all fields, up to a whole byte
unfoldable pub riff_chunk_bits : RiffChunk → List Bool
riff_chunk_bits value = write_sequence (riff_chunk_writes Low value ++ align ∷ []) 0

-- the fields in bits, each by its place
abbrev pub riff_chunk_at : List Bool → RiffChunk
riff_chunk_at bits = record {
  id = bytes_of Low 4 (bits_at 0 32 bits);
  size = number Low (bits_at 32 32 bits);
}
