-- A pointer to the rest of a domain name (RFC 1035, 4.1.4).
use Rattle.bitstream_messages.specs.declared.dns_pointer.DnsPointer.{DnsPointer}
use Rattle.std.proofs.Common.{refl}
use Rattle.bitstream_format.specs.Format.{◌>>=◌, Plain as PlainFormat, Parts as FormatParts, format, renamed, field, done}
use Rattle.std.specs.Prelude.{◌^◌, ◌<◌, ◌++◌, ◌∷◌, [], ℕ, Bool, List}
use Rattle.bitstream_io.specs.Callers.{Decoder, Encoder, Order, High, align, write_sequence}
use Rattle.bitstream_format.specs.Atoms as atom

-- Made by `./format` from formats/dns_pointer.fields: edit that file and make this one anew.

-- the lines, in order
abbrev pub dns_pointer_lines : FormatParts DnsPointer DnsPointer (λ s. s)
dns_pointer_lines = do
  offset ← field (atom.unsigned 16 14 refl) (λ s. s.offset)
  done (record { offset = offset })

-- the reads, in order
abbrev pub dns_pointer_decoder : Order → Decoder DnsPointer
dns_pointer_decoder o = dns_pointer_lines.read o

-- the writes, in order
abbrev pub dns_pointer_writes : Order → DnsPointer → List Encoder
dns_pointer_writes o value = dns_pointer_lines.write o value

-- each field fits its bits
pub record Fits (value : DnsPointer) : Type 0 where
  pub offset : value.offset < 2 ^ 14

-- the number of bits
abbrev pub dns_pointer_size : Order → DnsPointer → ℕ
dns_pointer_size o value = dns_pointer_lines.size value

-- the format, with the facts that must fit by name
abbrev pub dns_pointer_format : PlainFormat DnsPointer
dns_pointer_format = renamed Fits (format dns_pointer_lines (λ s. refl {a = s}))
    (λ s fits. fits.offset)
    (λ s facts. record { offset = facts })

-- the bits of all fields, up to a whole byte
unfoldable pub dns_pointer_bits : DnsPointer → List Bool
dns_pointer_bits value = write_sequence (dns_pointer_writes High value ++ align ∷ []) 0
