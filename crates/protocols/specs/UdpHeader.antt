-- The header of a UDP datagram (RFC 768).
use Rattle.protocols.specs.declared.udp_header.UdpHeader.{UdpHeader}
use Rattle.std.proofs.Common.{refl}
use Rattle.bitstream_format.specs.Format.{◌>>=◌, Plain as PlainFormat, Parts as FormatParts, format, renamed, field, ◌&◌, done}
use Rattle.std.specs.Prelude.{◌^◌, ◌<◌, ◌++◌, ◌∷◌, [], ℕ, Bool, List, take, drop}
use Rattle.bitstream_io.specs.Callers.{Decoder, Encoder, Order, High, number, align, write_sequence}
use Rattle.bitstream_format.specs.Atoms as atom

-- Made by `./format` from formats/udp_header.fields: edit that file and make this one anew.

-- n bits after the first k
abbrev pub bits_at : ℕ → ℕ → List Bool → List Bool
bits_at k n bits = take n (drop k bits)

-- the lines, in order
abbrev pub udp_header_lines : FormatParts UdpHeader UdpHeader (λ s. s)
udp_header_lines = do
  source ← field (atom.unsigned 16 16 refl) (λ s. s.source)
  target ← field (atom.unsigned 16 16 refl) (λ s. s.target)
  size ← field (atom.unsigned 16 16 refl) (λ s. s.size)
  checksum ← field (atom.unsigned 16 16 refl) (λ s. s.checksum)
  done (record { source = source; target = target; size = size; checksum = checksum })

-- the reads, in order
abbrev pub udp_header_decoder : Order → Decoder UdpHeader
udp_header_decoder o = udp_header_lines.read o

-- the writes, in order
abbrev pub udp_header_writes : Order → UdpHeader → List Encoder
udp_header_writes o value = udp_header_lines.write o value

-- each field fits its bits
pub record Fits (value : UdpHeader) : Type 0 where
  pub source : value.source < 2 ^ 16
  pub target : value.target < 2 ^ 16
  pub size : value.size < 2 ^ 16
  pub checksum : value.checksum < 2 ^ 16

-- the number of bits
abbrev pub udp_header_size : Order → UdpHeader → ℕ
udp_header_size o value = 64

-- the format, with the facts that must fit by name
abbrev pub udp_header_format : PlainFormat UdpHeader
udp_header_format = renamed Fits (format udp_header_lines (λ s. refl {a = s}))
    (λ s fits. fits.source & fits.target & fits.size & fits.checksum)
    (λ s facts. record { source = facts.0; target = facts.1.0; size = facts.1.1.0; checksum = facts.1.1.1 })

-- the bits of all fields, up to a whole byte
unfoldable pub udp_header_bits : UdpHeader → List Bool
udp_header_bits value = write_sequence (udp_header_writes High value ++ align ∷ []) 0

-- the fields in bits, each by its place
abbrev pub udp_header_at : List Bool → UdpHeader
udp_header_at bits = record {
  source = number High (bits_at 0 16 bits);
  target = number High (bits_at 16 16 bits);
  size = number High (bits_at 32 16 bits);
  checksum = number High (bits_at 48 16 bits);
}
