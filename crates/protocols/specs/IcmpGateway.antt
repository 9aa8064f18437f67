-- The router of a redirect.
use Rattle.protocols.specs.declared.icmp_gateway.IcmpGateway.{IcmpGateway}
use Rattle.std.proofs.Common.{refl}
use Rattle.bitstream_format.specs.Format.{◌>>=◌, Plain as PlainFormat, Parts as FormatParts, format, named, field, ◌&◌, done}
use Rattle.std.specs.Prelude.{◌≡◌, ◌<◌, ◌++◌, ◌∷◌, [], ℕ, Bool, List, length, take, drop}
use Rattle.std.specs.List.{All}
use Rattle.bitstream_io.specs.Callers.{Decoder, Encoder, Order, High, bytes_of, align, write_sequence}
use Rattle.bitstream_format.specs.Atoms as atom

-- Made by `./format` from formats/icmp_gateway.fields: edit that file and make this one anew.

-- n bits after the first k
abbrev pub bits_at : ℕ → ℕ → List Bool → List Bool
bits_at k n bits = take n (drop k bits)

-- the lines, in order
abbrev pub icmp_gateway_lines : FormatParts IcmpGateway IcmpGateway (λ s. s)
icmp_gateway_lines = do
  address ← field (atom.bytes 4) (λ s. s.address)
  done (record { address = address })

-- the reads, in order
abbrev pub icmp_gateway_decoder : Order → Decoder IcmpGateway
icmp_gateway_decoder o = icmp_gateway_lines.read o

-- the writes, in order
abbrev pub icmp_gateway_writes : Order → IcmpGateway → List Encoder
icmp_gateway_writes o value = icmp_gateway_lines.write o value

-- each field fits its bits
pub record Fits (value : IcmpGateway) : Type 0 where
  pub address_count : length value.address ≡ 4
  pub address : All (λ b. b < 256) value.address

-- the number of bits
abbrev pub icmp_gateway_size : Order → IcmpGateway → ℕ
icmp_gateway_size o value = 32

-- the format, with the facts that must fit by name
abbrev pub icmp_gateway_format : PlainFormat IcmpGateway
icmp_gateway_format = named Fits (format icmp_gateway_lines (λ s. refl {a = s}))
    (λ s fits. fits.address_count & fits.address)

-- the bits of all fields, up to a whole byte
unfoldable pub icmp_gateway_bits : IcmpGateway → List Bool
icmp_gateway_bits value = write_sequence (icmp_gateway_writes High value ++ align ∷ []) 0

-- the fields in bits, each by its place
abbrev pub icmp_gateway_at : List Bool → IcmpGateway
icmp_gateway_at bits = record {
  address = bytes_of High 4 (bits_at 0 32 bits);
}
