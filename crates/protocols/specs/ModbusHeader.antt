-- The header of a Modbus/TCP message, and its function (Modbus on TCP/IP 1.0b, section 3.1.3).
use Rattle.protocols.specs.declared.modbus_header.ModbusHeader.{ModbusHeader}
use Rattle.protocols.specs.declared.modbus_header.ModbusError.{ModbusError}
use Rattle.protocols.specs.declared.modbus_header.ModbusError.TheVariants.{Reader, OtherProtocol}
use Rattle.std.proofs.Common.{refl}
use Rattle.bitstream_format.specs.Format.{◌>>=◌, Own as OwnFormat, Parts as FormatParts, format, renamed, field, const, ◌&◌, own_done}
use Rattle.std.specs.Prelude.{◌≡◌, ◌^◌, ◌<◌, ◌++◌, ◌∷◌, [], ℕ, Bool, List, Result, Ok, take, drop}
use Rattle.bitstream_io.specs.Callers.{Decoder, Encoder, Error, Order, High, number, first_bit, align, write_sequence}
use Rattle.bitstream_format.specs.Atoms as atom

-- Made by `./format` from formats/modbus_header.fields: edit that file and make this one anew.

-- an error of the reader is one of the type's
abbrev pub becomes_modbus_header : Error → ModbusError → Type 0
becomes_modbus_header error own = own ≡ Reader error

-- n bits after the first k
abbrev pub bits_at : ℕ → ℕ → List Bool → List Bool
bits_at k n bits = take n (drop k bits)

-- the 16 bits at 16, which are 0
abbrev pub const_at_16 : List Bool → ℕ
const_at_16 bits = number High (bits_at 16 16 bits)

-- the lines, in order
abbrev pub modbus_header_lines : FormatParts ModbusHeader (Result ModbusHeader ModbusError) (λ s. Ok s)
modbus_header_lines = do
  transaction ← field (atom.unsigned 16 16 refl) (λ s. s.transaction)
  constant_1 ← const 16 0 refl OtherProtocol
  size ← field (atom.unsigned 16 16 refl) (λ s. s.size)
  unit ← field (atom.unsigned 8 8 refl) (λ s. s.unit)
  refused ← field atom.bool (λ s. s.refused)
  function ← field (atom.unsigned 8 7 refl) (λ s. s.function)
  own_done (record { transaction = transaction; size = size; unit = unit; refused = refused; function = function })

-- the reads, in order
abbrev pub modbus_header_decoder : Order → Decoder (Result ModbusHeader ModbusError)
modbus_header_decoder o = modbus_header_lines.read o

-- the writes, in order
abbrev pub modbus_header_writes : Order → ModbusHeader → List Encoder
modbus_header_writes o value = modbus_header_lines.write o value

-- each field fits its bits
pub record Fits (value : ModbusHeader) : Type 0 where
  pub transaction : value.transaction < 2 ^ 16
  pub size : value.size < 2 ^ 16
  pub unit : value.unit < 2 ^ 8
  pub function : value.function < 2 ^ 7

-- the number of bits
abbrev pub modbus_header_size : Order → ModbusHeader → ℕ
modbus_header_size o value = 64

-- the format, with the facts that must fit by name
abbrev pub modbus_header_format : OwnFormat ModbusError ModbusHeader
modbus_header_format = renamed Fits (format modbus_header_lines (λ s. refl {a = s}))
    (λ s fits. fits.transaction & fits.size & fits.unit & fits.function)
    (λ s facts. record { transaction = facts.0; size = facts.1.0; unit = facts.1.1.0; function = facts.1.1.1 })

-- the bits of all fields, up to a whole byte
unfoldable pub modbus_header_bits : ModbusHeader → List Bool
modbus_header_bits value = write_sequence (modbus_header_writes High value ++ align ∷ []) 0

-- the fields in bits, each by its place
abbrev pub modbus_header_at : List Bool → ModbusHeader
modbus_header_at bits = record {
  transaction = number High (bits_at 0 16 bits);
  size = number High (bits_at 32 16 bits);
  unit = number High (bits_at 48 8 bits);
  refused = first_bit (bits_at 56 1 bits);
  function = number High (bits_at 57 7 bits);
}
