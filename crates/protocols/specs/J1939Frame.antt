-- A CAN frame of SAE J1939 in a capture, with eight bytes (SAE J1939-21, section 5.2).
use Rattle.protocols.specs.declared.j1939_frame.J1939Frame.{J1939Frame}
use Rattle.protocols.specs.declared.j1939_frame.J1939Error.{J1939Error}
use Rattle.protocols.specs.declared.j1939_frame.J1939Error.TheVariants.{Reader, OtherFrame, OtherSize}
use Rattle.std.proofs.Common.{refl}
use Rattle.bitstream_format.specs.Format.{◌>>=◌, Own as OwnFormat, Parts as FormatParts, format, named, field, const, ◌&◌, own_done}
use Rattle.std.specs.Prelude.{◌≡◌, ◌^◌, ◌<◌, ◌++◌, ◌∷◌, [], ℕ, Bool, List, Result, Ok, length, take, drop}
use Rattle.std.specs.List.{All}
use Rattle.bitstream_io.specs.Callers.{Decoder, Encoder, Error, Order, High, number, first_bit, bytes_of, align, write_sequence}
use Rattle.bitstream_format.specs.Atoms as atom

-- Made by `./format` from formats/j1939_frame.fields: edit that file and make this one anew.

-- an error of the reader is one of the type's
abbrev pub becomes_j1939_frame : Error → J1939Error → Type 0
becomes_j1939_frame error own = own ≡ Reader error

-- n bits after the first k
abbrev pub bits_at : ℕ → ℕ → List Bool → List Bool
bits_at k n bits = take n (drop k bits)

-- the 3 bits at 0, which are 4
abbrev pub const_at_0 : List Bool → ℕ
const_at_0 bits = number High (bits_at 0 3 bits)

-- the 8 bits at 32, which are 8
abbrev pub const_at_32 : List Bool → ℕ
const_at_32 bits = number High (bits_at 32 8 bits)

-- the lines, in order
abbrev pub j1939_frame_lines : FormatParts J1939Frame (Result J1939Frame J1939Error) (λ s. Ok s)
j1939_frame_lines = do
  constant_0 ← const 3 4 refl OtherFrame
  priority ← field (atom.unsigned 8 3 refl) (λ s. s.priority)
  extended_page ← field atom.bool (λ s. s.extended_page)
  page ← field atom.bool (λ s. s.page)
  format ← field (atom.unsigned 8 8 refl) (λ s. s.format)
  specific ← field (atom.unsigned 8 8 refl) (λ s. s.specific)
  source ← field (atom.unsigned 8 8 refl) (λ s. s.source)
  constant_7 ← const 8 8 refl OtherSize
  skipped_8 ← field (atom.pad 24) (λ s. tt)
  payload ← field (atom.bytes 8) (λ s. s.payload)
  own_done (record {
    priority = priority;
    extended_page = extended_page;
    page = page;
    format = format;
    specific =
        specific;
    source = source;
    payload = payload;
  })

-- the reads, in order
abbrev pub j1939_frame_decoder : Order → Decoder (Result J1939Frame J1939Error)
j1939_frame_decoder o = j1939_frame_lines.read o

-- the writes, in order
abbrev pub j1939_frame_writes : Order → J1939Frame → List Encoder
j1939_frame_writes o value = j1939_frame_lines.write o value

-- each field fits its bits
pub record Fits (value : J1939Frame) : Type 0 where
  pub priority : value.priority < 2 ^ 3
  pub format : value.format < 2 ^ 8
  pub specific : value.specific < 2 ^ 8
  pub source : value.source < 2 ^ 8
  pub payload_count : length value.payload ≡ 8
  pub payload : All (λ b. b < 256) value.payload

-- the number of bits
abbrev pub j1939_frame_size : Order → J1939Frame → ℕ
j1939_frame_size o value = 128

-- the format, with the facts that must fit by name
abbrev pub j1939_frame_format : OwnFormat J1939Error J1939Frame
j1939_frame_format = named Fits (format j1939_frame_lines (λ s. refl {a = s}))
    (λ s fits. fits.priority & fits.format & fits.specific & fits.source & fits.payload_count & fits.payload)

-- the bits of all fields, up to a whole byte
unfoldable pub j1939_frame_bits : J1939Frame → List Bool
j1939_frame_bits value = write_sequence (j1939_frame_writes High value ++ align ∷ []) 0

-- the fields in bits, each by its place
abbrev pub j1939_frame_at : List Bool → J1939Frame
j1939_frame_at bits = record {
  priority = number High (bits_at 3 3 bits);
  extended_page = first_bit (bits_at 6 1 bits);
  page = first_bit (bits_at 7 1 bits);
  format = number High (bits_at 8 8 bits);
  specific = number High (bits_at 16 8 bits);
  source = number High (bits_at 24 8 bits);
  payload = bytes_of High 8 (bits_at 64 64 bits);
}
