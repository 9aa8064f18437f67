-- The header of a block of a FLAC file.
use Rattle.bitstream_callers.specs.declared.block_header.BlockHeader.{BlockHeader}
use Rattle.std.proofs.Common.{refl}
use Rattle.bitstream_format.specs.Format.{◌>>=◌, Plain as PlainFormat, Parts as FormatParts, format, renamed, field, ◌&◌, done}
use Rattle.std.specs.Prelude.{◌^◌, ◌<◌, ◌++◌, ◌∷◌, [], ℕ, Bool, List, take, drop}
use Rattle.bitstream_io.specs.Callers.{Decoder, Encoder, Order, High, number, first_bit, align, write_sequence}
use Rattle.bitstream_format.specs.Atoms as atom

-- Made by `./format` from formats/block_header.fields: edit that file and make this one anew.

-- n bits after the first k
abbrev pub bits_at : ℕ → ℕ → List Bool → List Bool
bits_at k n bits = take n (drop k bits)

-- the lines, in order
abbrev pub block_header_lines : FormatParts BlockHeader BlockHeader (λ s. s)
block_header_lines = do
  last ← field atom.bool (λ s. s.last)
  kind ← field (atom.unsigned 8 7 refl) (λ s. s.kind)
  size ← field (atom.unsigned 32 24 refl) (λ s. s.size)
  done (record { last = last; kind = kind; size = size })

-- the reads, in order
abbrev pub block_header_decoder : Order → Decoder BlockHeader
block_header_decoder o = block_header_lines.read o

-- the writes, in order
abbrev pub block_header_writes : Order → BlockHeader → List Encoder
block_header_writes o value = block_header_lines.write o value

-- each field fits its bits
pub record Fits (value : BlockHeader) : Type 0 where
  pub kind : value.kind < 2 ^ 7
  pub size : value.size < 2 ^ 24

-- the number of bits
abbrev pub block_header_size : Order → BlockHeader → ℕ
block_header_size o value = 32

-- the format, with the facts that must fit by name
abbrev pub block_header_format : PlainFormat BlockHeader
block_header_format = renamed Fits (format block_header_lines (λ s. refl {a = s}))
    (λ s fits. fits.kind & fits.size)
    (λ s facts. record { kind = facts.0; size = facts.1 })

-- the bits of all fields, up to a whole byte
unfoldable pub block_header_bits : BlockHeader → List Bool
block_header_bits value = write_sequence (block_header_writes High value ++ align ∷ []) 0

-- the fields in bits, each by its place
abbrev pub block_header_at : List Bool → BlockHeader
block_header_at bits = record {
  last = first_bit (bits_at 0 1 bits);
  kind = number High (bits_at 1 7 bits);
  size = number High (bits_at 8 24 bits);
}
