-- A packet of ARP for IPv4 over Ethernet (RFC 826, "Packet format").
use Rattle.protocols.specs.declared.arp_packet.ArpPacket.{ArpPacket}
use Rattle.protocols.specs.declared.arp_packet.ArpError.{ArpError}
use Rattle.protocols.specs.declared.arp_packet.ArpError.TheVariants.{Reader, OtherHardware, OtherProtocol, OtherHardwareLength, OtherProtocolLength}
use Rattle.protocols.specs.declared.arp_packet.Operation.{Operation}
use Rattle.protocols.specs.declared.arp_packet.Operation.TheVariants.{Request, Reply, Other}
use Rattle.std.proofs.Common.{refl}
use Rattle.bitstream_format.specs.Format.{◌>>=◌, Plain as PlainFormat, Own as OwnFormat, Parts as FormatParts, format, named, field, const, ◌&◌, own_done}
use Rattle.bitstream_format.specs.Cases.{open_cases}
use Rattle.std.specs.Prelude.{◌≡◌, ◌^◌, ◌<◌, ◌++◌, ◌∷◌, [], ◌==◌, if◌then◌else◌, ℕ, Bool, List, Result, Ok, length, take, drop}
use Rattle.std.specs.List.{All}
use Rattle.bitstream_io.specs.Callers.{Decoder, Encoder, pure, Error, Order, High, number, and_then, unsigned_decoder, bytes_of, align, write_sequence}
use Rattle.bitstream_format.specs.Atoms as atom

-- Made by `./format` from formats/arp_packet.fields: edit that file and make this one anew.

-- an error of the reader is one of the type's
abbrev pub becomes_arp_packet : Error → ArpError → Type 0
becomes_arp_packet error own = own ≡ Reader error

-- n bits after the first k
abbrev pub bits_at : ℕ → ℕ → List Bool → List Bool
bits_at k n bits = take n (drop k bits)

-- the 16 bits at 0, which are 1
abbrev pub const_at_0 : List Bool → ℕ
const_at_0 bits = number High (bits_at 0 16 bits)

-- the 16 bits at 16, which are 2048
abbrev pub const_at_16 : List Bool → ℕ
const_at_16 bits = number High (bits_at 16 16 bits)

-- the 8 bits at 32, which are 6
abbrev pub const_at_32 : List Bool → ℕ
const_at_32 bits = number High (bits_at 32 8 bits)

-- the 8 bits at 40, which are 4
abbrev pub const_at_40 : List Bool → ℕ
const_at_40 bits = number High (bits_at 40 8 bits)

-- the case of a number
abbrev pub operation_of : ℕ → Operation
operation_of n = if n == 1 then Request else if n == 2 then Reply else Other n

-- the number of a case
abbrev pub operation_number : Operation → ℕ
operation_number Request = 1
operation_number Reply = 2
operation_number (Other n) = n

-- the read of a case
abbrev pub operation_read : Order → Decoder Operation
operation_read o = and_then (unsigned_decoder o 16 16) (λ v. pure (operation_of v))

-- the cases, by their numbers
abbrev pub operation_cases : PlainFormat Operation
operation_cases = open_cases 16 16 refl operation_of operation_number

-- the lines, in order
abbrev pub arp_packet_lines : FormatParts ArpPacket (Result ArpPacket ArpError) (λ s. Ok s)
arp_packet_lines = do
  constant_0 ← const 16 1 refl OtherHardware
  constant_1 ← const 16 2048 refl OtherProtocol
  constant_2 ← const 8 6 refl OtherHardwareLength
  constant_3 ← const 8 4 refl OtherProtocolLength
  operation ← field operation_cases (λ s. s.operation)
  sender_hardware ← field (atom.bytes 6) (λ s. s.sender_hardware)
  sender_protocol ← field (atom.bytes 4) (λ s. s.sender_protocol)
  target_hardware ← field (atom.bytes 6) (λ s. s.target_hardware)
  target_protocol ← field (atom.bytes 4) (λ s. s.target_protocol)
  own_done (record {
    operation = operation;
    sender_hardware = sender_hardware;
    sender_protocol = sender_protocol;
    target_hardware = target_hardware;
    target_protocol = target_protocol;
  })

-- the reads, in order
abbrev pub arp_packet_decoder : Order → Decoder (Result ArpPacket ArpError)
arp_packet_decoder o = arp_packet_lines.read o

-- the writes, in order
abbrev pub arp_packet_writes : Order → ArpPacket → List Encoder
arp_packet_writes o value = arp_packet_lines.write o value

-- each field fits its bits
pub record Fits (value : ArpPacket) : Type 0 where
  pub operation : operation_number value.operation < 2 ^ 16
  pub operation_again : operation_of (operation_number value.operation) ≡ value.operation
  pub sender_hardware_count : length value.sender_hardware ≡ 6
  pub sender_hardware : All (λ b. b < 256) value.sender_hardware
  pub sender_protocol_count : length value.sender_protocol ≡ 4
  pub sender_protocol : All (λ b. b < 256) value.sender_protocol
  pub target_hardware_count : length value.target_hardware ≡ 6
  pub target_hardware : All (λ b. b < 256) value.target_hardware
  pub target_protocol_count : length value.target_protocol ≡ 4
  pub target_protocol : All (λ b. b < 256) value.target_protocol

-- the number of bits
abbrev pub arp_packet_size : Order → ArpPacket → ℕ
arp_packet_size o value = 224

-- the format, with the facts that must fit by name
abbrev pub arp_packet_format : OwnFormat ArpError ArpPacket
arp_packet_format = named Fits (format arp_packet_lines (λ s. refl {a = s}))
    (λ s fits. fits.operation & fits.operation_again & fits.sender_hardware_count & fits.sender_hardware &
    fits.sender_protocol_count & fits.sender_protocol & fits.target_hardware_count & fits.target_hardware &
    fits.target_protocol_count & fits.target_protocol)

-- the bits of all fields, up to a whole byte
unfoldable pub arp_packet_bits : ArpPacket → List Bool
arp_packet_bits value = write_sequence (arp_packet_writes High value ++ align ∷ []) 0

-- the fields in bits, each by its place
abbrev pub arp_packet_at : List Bool → ArpPacket
arp_packet_at bits = record {
  operation = operation_of (number High (bits_at 48 16 bits));
  sender_hardware = bytes_of High 6 (bits_at 64 48 bits);
  sender_protocol = bytes_of High 4 (bits_at 112 32 bits);
  target_hardware = bytes_of High 6 (bits_at 144 48 bits);
  target_protocol = bytes_of High 4 (bits_at 192 32 bits);
}
