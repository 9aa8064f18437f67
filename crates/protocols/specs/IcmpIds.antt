-- The numbers that identify an echo.
use Rattle.protocols.specs.declared.icmp_ids.IcmpIds.{IcmpIds}
use Rattle.std.proofs.Common.{refl}
use Rattle.bitstream_format.specs.Format.{◌>>=◌, Plain as PlainFormat, Parts as FormatParts, format, renamed, field, ◌&◌, done}
use Rattle.std.specs.Prelude.{◌^◌, ◌<◌, ◌++◌, ◌∷◌, [], ℕ, Bool, List, take, drop}
use Rattle.bitstream_io.specs.Callers.{Decoder, Encoder, Order, High, number, align, write_sequence}
use Rattle.bitstream_format.specs.Atoms as atom

-- Made by `./format` from formats/icmp_ids.fields: edit that file and make this one anew.

-- n bits after the first k
abbrev pub bits_at : ℕ → ℕ → List Bool → List Bool
bits_at k n bits = take n (drop k bits)

-- the lines, in order
abbrev pub icmp_ids_lines : FormatParts IcmpIds IcmpIds (λ s. s)
icmp_ids_lines = do
  identifier ← field (atom.unsigned 16 16 refl) (λ s. s.identifier)
  sequence ← field (atom.unsigned 16 16 refl) (λ s. s.sequence)
  done (record { identifier = identifier; sequence = sequence })

-- the reads, in order
abbrev pub icmp_ids_decoder : Order → Decoder IcmpIds
icmp_ids_decoder o = icmp_ids_lines.read o

-- the writes, in order
abbrev pub icmp_ids_writes : Order → IcmpIds → List Encoder
icmp_ids_writes o value = icmp_ids_lines.write o value

-- each field fits its bits
pub record Fits (value : IcmpIds) : Type 0 where
  pub identifier : value.identifier < 2 ^ 16
  pub sequence : value.sequence < 2 ^ 16

-- the number of bits
abbrev pub icmp_ids_size : Order → IcmpIds → ℕ
icmp_ids_size o value = 32

-- the format, with the facts that must fit by name
abbrev pub icmp_ids_format : PlainFormat IcmpIds
icmp_ids_format = renamed Fits (format icmp_ids_lines (λ s. refl {a = s}))
    (λ s fits. fits.identifier & fits.sequence)
    (λ s facts. record { identifier = facts.0; sequence = facts.1 })

-- the bits of all fields, up to a whole byte
unfoldable pub icmp_ids_bits : IcmpIds → List Bool
icmp_ids_bits value = write_sequence (icmp_ids_writes High value ++ align ∷ []) 0

-- the fields in bits, each by its place
abbrev pub icmp_ids_at : List Bool → IcmpIds
icmp_ids_at bits = record {
  identifier = number High (bits_at 0 16 bits);
  sequence = number High (bits_at 16 16 bits);
}
