-- The header of a CAN frame in a capture (LINKTYPE_CAN_SOCKETCAN of tcpdump.org).
use Rattle.protocols.specs.declared.can_frame.CanFrame.{CanFrame}
use Rattle.std.proofs.Common.{refl}
use Rattle.bitstream_format.specs.Format.{◌>>=◌, Plain as PlainFormat, Parts as FormatParts, format, renamed, field, ◌&◌, done}
use Rattle.std.specs.Prelude.{◌^◌, ◌<◌, ◌++◌, ◌∷◌, [], ℕ, Bool, List, take, drop}
use Rattle.bitstream_io.specs.Callers.{Decoder, Encoder, Order, High, number, first_bit, align, write_sequence}
use Rattle.bitstream_format.specs.Atoms as atom

-- Made by `./format` from formats/can_frame.fields: edit that file and make this one anew.

-- n bits after the first k
abbrev pub bits_at : ℕ → ℕ → List Bool → List Bool
bits_at k n bits = take n (drop k bits)

-- the lines, in order
abbrev pub can_frame_lines : FormatParts CanFrame CanFrame (λ s. s)
can_frame_lines = do
  extended ← field atom.bool (λ s. s.extended)
  remote ← field atom.bool (λ s. s.remote)
  fault ← field atom.bool (λ s. s.fault)
  id ← field (atom.unsigned 32 29 refl) (λ s. s.id)
  size ← field (atom.unsigned 8 8 refl) (λ s. s.size)
  skipped_5 ← field (atom.pad 24) (λ s. tt)
  done (record { extended = extended; remote = remote; fault = fault; id = id; size = size })

-- the reads, in order
abbrev pub can_frame_decoder : Order → Decoder CanFrame
can_frame_decoder o = can_frame_lines.read o

-- the writes, in order
abbrev pub can_frame_writes : Order → CanFrame → List Encoder
can_frame_writes o value = can_frame_lines.write o value

-- each field fits its bits
pub record Fits (value : CanFrame) : Type 0 where
  pub id : value.id < 2 ^ 29
  pub size : value.size < 2 ^ 8

-- the number of bits
abbrev pub can_frame_size : Order → CanFrame → ℕ
can_frame_size o value = 64

-- the format, with the facts that must fit by name
abbrev pub can_frame_format : PlainFormat CanFrame
can_frame_format = renamed Fits (format can_frame_lines (λ s. refl {a = s}))
    (λ s fits. fits.id & fits.size)
    (λ s facts. record { id = facts.0; size = facts.1 })

-- the bits of all fields, up to a whole byte
unfoldable pub can_frame_bits : CanFrame → List Bool
can_frame_bits value = write_sequence (can_frame_writes High value ++ align ∷ []) 0

-- the fields in bits, each by its place
abbrev pub can_frame_at : List Bool → CanFrame
can_frame_at bits = record {
  extended = first_bit (bits_at 0 1 bits);
  remote = first_bit (bits_at 1 1 bits);
  fault = first_bit (bits_at 2 1 bits);
  id = number High (bits_at 3 29 bits);
  size = number High (bits_at 32 8 bits);
}
