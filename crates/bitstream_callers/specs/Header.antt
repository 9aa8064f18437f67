-- The header before a packet's bytes.
use Rattle.bitstream_callers.specs.declared.header.Header.{Header}
use Rattle.std.proofs.Common.{refl}
use Rattle.bitstream_format.specs.Format.{◌>>=◌, Plain as PlainFormat, Parts as FormatParts, format, renamed, field, ◌&◌, done}
use Rattle.std.specs.Prelude.{◌^◌, ◌<◌, ◌++◌, ◌∷◌, [], ℕ, Bool, List, length, take, drop}
use Rattle.bitstream_io.specs.Callers.{Decoder, Encoder, Order, High, number, signed_number, FitsSignedBits, first_bit, align, write_sequence}
use Rattle.bitstream_format.specs.Atoms as atom

-- Made by `./format` from formats/header.fields: edit that file and make this one anew.

-- n bits after the first k
abbrev pub bits_at : ℕ → ℕ → List Bool → List Bool
bits_at k n bits = take n (drop k bits)

-- the lines, in order
abbrev pub header_lines : FormatParts Header Header (λ s. s)
header_lines = do
  version ← field (atom.unsigned 8 3 refl) (λ s. s.version)
  acknowledge ← field atom.bool (λ s. s.acknowledge)
  priority ← field (atom.signed 8 4 refl refl) (λ s. s.priority)
  length ← field (atom.unsigned 16 16 refl) (λ s. s.length)
  done (record { version = version; acknowledge = acknowledge; priority = priority; length = length })

-- the reads, in order
abbrev pub header_decoder : Order → Decoder Header
header_decoder o = header_lines.read o

-- the writes, in order
abbrev pub header_writes : Order → Header → List Encoder
header_writes o value = header_lines.write o value

-- each field fits its bits
pub record Fits (value : Header) : Type 0 where
  pub version : value.version < 2 ^ 3
  pub priority : FitsSignedBits 4 value.priority
  pub length : value.length < 2 ^ 16

-- the number of bits
abbrev pub header_size : Order → Header → ℕ
header_size o value = 24

-- the format, with the facts that must fit by name
abbrev pub header_format : PlainFormat Header
header_format = renamed Fits (format header_lines (λ s. refl {a = s}))
    (λ s fits. fits.version & fits.priority & fits.length)
    (λ s facts. record { version = facts.0; priority = facts.1.0; length = facts.1.1 })

-- the bits of all fields, up to a whole byte
unfoldable pub header_bits : Header → List Bool
header_bits value = write_sequence (header_writes High value ++ align ∷ []) 0

-- the fields in bits, each by its place
abbrev pub header_at : List Bool → Header
header_at bits = record {
  version = number High (bits_at 0 3 bits);
  acknowledge = first_bit (bits_at 3 1 bits);
  priority = signed_number High (bits_at 4 4 bits);
  length = number High (bits_at 8 16 bits);
}
