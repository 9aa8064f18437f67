-- The primary header of a CCSDS space packet.
use Rattle.bitstream_callers.specs.declared.primary_header.PrimaryHeader.{PrimaryHeader}
use Rattle.bitstream_callers.specs.declared.primary_header.PrimaryHeaderError.{PrimaryHeaderError}
use Rattle.bitstream_callers.specs.declared.primary_header.PrimaryHeaderError.TheVariants.{Reader, WrongVersion}
use Rattle.std.proofs.Common.{refl}
use Rattle.bitstream_format.specs.Format.{◌>>=◌, Own as OwnFormat, Parts as FormatParts, format, renamed, field, const, ◌&◌, own_done}
use Rattle.std.specs.Prelude.{◌≡◌, ◌^◌, ◌<◌, ◌++◌, ◌∷◌, [], ℕ, Bool, List, Result, Ok, length, take, drop}
use Rattle.bitstream_io.specs.Callers.{Decoder, Encoder, Error, Order, High, number, first_bit, align, write_sequence}
use Rattle.bitstream_format.specs.Atoms as atom

-- Made by `./format` from formats/primary_header.fields: edit that file and make this one anew.

-- an error of the reader is one of the type's
abbrev pub becomes_primary_header : Error → PrimaryHeaderError → Type 0
becomes_primary_header error own = own ≡ Reader error

-- n bits after the first k
abbrev pub bits_at : ℕ → ℕ → List Bool → List Bool
bits_at k n bits = take n (drop k bits)

-- the 3 bits at 0, which are 0
abbrev pub const_at_0 : List Bool → ℕ
const_at_0 bits = number High (bits_at 0 3 bits)

-- the lines, in order
abbrev pub primary_header_lines : FormatParts PrimaryHeader (Result PrimaryHeader PrimaryHeaderError) (λ s. Ok s)
primary_header_lines = do
  constant_0 ← const 3 0 refl WrongVersion
  telecommand ← field atom.bool (λ s. s.telecommand)
  secondary ← field atom.bool (λ s. s.secondary)
  apid ← field (atom.unsigned 16 11 refl) (λ s. s.apid)
  sequence ← field (atom.unsigned 8 2 refl) (λ s. s.sequence)
  count ← field (atom.unsigned 16 14 refl) (λ s. s.count)
  length ← field (atom.unsigned 16 16 refl) (λ s. s.length)
  own_done (record {
    telecommand = telecommand;
    secondary = secondary;
    apid = apid;
    sequence = sequence;
    count = count;
    length = length;
  })

-- the reads, in order
abbrev pub primary_header_decoder : Order → Decoder (Result PrimaryHeader PrimaryHeaderError)
primary_header_decoder o = primary_header_lines.read o

-- the writes, in order
abbrev pub primary_header_writes : Order → PrimaryHeader → List Encoder
primary_header_writes o value = primary_header_lines.write o value

-- each field fits its bits
pub record Fits (value : PrimaryHeader) : Type 0 where
  pub apid : value.apid < 2 ^ 11
  pub sequence : value.sequence < 2 ^ 2
  pub count : value.count < 2 ^ 14
  pub length : value.length < 2 ^ 16

-- the number of bits
abbrev pub primary_header_size : Order → PrimaryHeader → ℕ
primary_header_size o value = 48

-- the format, with the facts that must fit by name
abbrev pub primary_header_format : OwnFormat PrimaryHeaderError PrimaryHeader
primary_header_format = renamed Fits (format primary_header_lines (λ s. refl {a = s}))
    (λ s fits. fits.apid & fits.sequence & fits.count & fits.length)
    (λ s facts. record { apid = facts.0; sequence = facts.1.0; count = facts.1.1.0; length = facts.1.1.1 })

-- the bits of all fields, up to a whole byte
unfoldable pub primary_header_bits : PrimaryHeader → List Bool
primary_header_bits value = write_sequence (primary_header_writes High value ++ align ∷ []) 0

-- the fields in bits, each by its place
abbrev pub primary_header_at : List Bool → PrimaryHeader
primary_header_at bits = record {
  telecommand = first_bit (bits_at 3 1 bits);
  secondary = first_bit (bits_at 4 1 bits);
  apid = number High (bits_at 5 11 bits);
  sequence = number High (bits_at 16 2 bits);
  count = number High (bits_at 18 14 bits);
  length = number High (bits_at 32 16 bits);
}
