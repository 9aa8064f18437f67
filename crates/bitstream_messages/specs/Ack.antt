-- The acknowledgement of a packet.
use Rattle.bitstream_messages.specs.declared.ack.Ack.{Ack}
use Rattle.std.proofs.Common.{refl}
use Rattle.bitstream_format.specs.Format.{◌>>=◌, Plain as PlainFormat, Parts as FormatParts, format, renamed, field, done}
use Rattle.std.specs.Prelude.{◌^◌, ◌<◌, ◌++◌, ◌∷◌, [], ℕ, Bool, List, take, drop}
use Rattle.bitstream_io.specs.Callers.{Decoder, Encoder, Order, High, number, first_bit, align, write_sequence}
use Rattle.bitstream_format.specs.Atoms as atom

-- Made by `./format` from formats/ack.fields: edit that file and make this one anew.

-- n bits after the first k
abbrev pub bits_at : ℕ → ℕ → List Bool → List Bool
bits_at k n bits = take n (drop k bits)

-- the lines, in order
abbrev pub ack_lines : FormatParts Ack Ack (λ s. s)
ack_lines = do
  sequence ← field (atom.unsigned 16 16 refl) (λ s. s.sequence)
  urgent ← field atom.bool (λ s. s.urgent)
  skipped_2 ← field (atom.pad 7) (λ s. tt)
  done (record { sequence = sequence; urgent = urgent })

-- the reads, in order
abbrev pub ack_decoder : Order → Decoder Ack
ack_decoder o = ack_lines.read o

-- the writes, in order
abbrev pub ack_writes : Order → Ack → List Encoder
ack_writes o value = ack_lines.write o value

-- each field fits its bits
pub record Fits (value : Ack) : Type 0 where
  pub sequence : value.sequence < 2 ^ 16

-- the number of bits
abbrev pub ack_size : Order → Ack → ℕ
ack_size o value = 24

-- the format, with the facts that must fit by name
abbrev pub ack_format : PlainFormat Ack
ack_format = renamed Fits (format ack_lines (λ s. refl {a = s}))
    (λ s fits. fits.sequence)
    (λ s facts. record { sequence = facts })

-- the bits of all fields, up to a whole byte
unfoldable pub ack_bits : Ack → List Bool
ack_bits value = write_sequence (ack_writes High value ++ align ∷ []) 0

-- the fields in bits, each by its place
abbrev pub ack_at : List Bool → Ack
ack_at bits = record {
  sequence = number High (bits_at 0 16 bits);
  urgent = first_bit (bits_at 16 1 bits);
}
