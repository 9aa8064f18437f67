-- The fields of a header of IPv4 that the checksums of UDP and TCP cover (RFC 768; RFC 9293, section 3.1).
use Rattle.network_messages.specs.declared.ipv4_pseudo.Ipv4Pseudo.{Ipv4Pseudo}
use Rattle.std.proofs.Common.{refl}
use Rattle.bitstream_format.specs.Format.{◌>>=◌, Plain as PlainFormat, Parts as FormatParts, format, named, field, ◌&◌, done}
use Rattle.std.specs.Prelude.{◌≡◌, ◌^◌, ◌<◌, ◌++◌, ◌∷◌, [], ℕ, Bool, List, length, take, drop}
use Rattle.std.specs.List.{All}
use Rattle.bitstream_io.specs.Callers.{Decoder, Encoder, Order, High, number, bytes_of, align, write_sequence}
use Rattle.bitstream_format.specs.Atoms as atom

-- Made by `./format` from formats/ipv4_pseudo.fields: edit that file and make this one anew.

-- n bits after the first k
abbrev pub bits_at : ℕ → ℕ → List Bool → List Bool
bits_at k n bits = take n (drop k bits)

-- the lines, in order
abbrev pub ipv4_pseudo_lines : FormatParts Ipv4Pseudo Ipv4Pseudo (λ s. s)
ipv4_pseudo_lines = do
  source ← field (atom.bytes 4) (λ s. s.source)
  target ← field (atom.bytes 4) (λ s. s.target)
  skipped_2 ← field (atom.pad 8) (λ s. tt)
  protocol ← field (atom.unsigned 8 8 refl) (λ s. s.protocol)
  length ← field (atom.unsigned 16 16 refl) (λ s. s.length)
  done (record { source = source; target = target; protocol = protocol; length = length })

-- the reads, in order
abbrev pub ipv4_pseudo_decoder : Order → Decoder Ipv4Pseudo
ipv4_pseudo_decoder o = ipv4_pseudo_lines.read o

-- the writes, in order
abbrev pub ipv4_pseudo_writes : Order → Ipv4Pseudo → List Encoder
ipv4_pseudo_writes o value = ipv4_pseudo_lines.write o value

-- each field fits its bits
pub record Fits (value : Ipv4Pseudo) : Type 0 where
  pub source_count : length value.source ≡ 4
  pub source : All (λ b. b < 256) value.source
  pub target_count : length value.target ≡ 4
  pub target : All (λ b. b < 256) value.target
  pub protocol : value.protocol < 2 ^ 8
  pub length : value.length < 2 ^ 16

-- the number of bits
abbrev pub ipv4_pseudo_size : Order → Ipv4Pseudo → ℕ
ipv4_pseudo_size o value = 96

-- the format, with the facts that must fit by name
abbrev pub ipv4_pseudo_format : PlainFormat Ipv4Pseudo
ipv4_pseudo_format = named Fits (format ipv4_pseudo_lines (λ s. refl {a = s}))
    (λ s fits. fits.source_count & fits.source & fits.target_count & fits.target & fits.protocol & fits.length)

-- the bits of all fields, up to a whole byte
unfoldable pub ipv4_pseudo_bits : Ipv4Pseudo → List Bool
ipv4_pseudo_bits value = write_sequence (ipv4_pseudo_writes High value ++ align ∷ []) 0

-- the fields in bits, each by its place
abbrev pub ipv4_pseudo_at : List Bool → Ipv4Pseudo
ipv4_pseudo_at bits = record {
  source = bytes_of High 4 (bits_at 0 32 bits);
  target = bytes_of High 4 (bits_at 32 32 bits);
  protocol = number High (bits_at 72 8 bits);
  length = number High (bits_at 80 16 bits);
}
