-- The bytes of a label of a domain name (RFC 1035, 3.1). The empty label ends a name.
use Rattle.bitstream_messages.specs.declared.dns_text.DnsText.{DnsText}
use Rattle.std.proofs.Common.{refl}
use Rattle.bitstream_format.specs.Format.{◌>>=◌, Own as OwnFormat, Parts as FormatParts, format, named, field, ◌&◌, own_done}
use Rattle.bitstream_format.specs.Lists.{byte_list}
use Rattle.std.specs.Prelude.{◌^◌, ◌<◌, ◌++◌, ◌∷◌, [], ℕ, Bool, List, Result, Ok, length}
use Rattle.std.specs.List.{All}
use Rattle.bitstream_io.specs.Callers.{Decoder, Encoder, Error, Order, High, align, write_sequence}
use Rattle.bitstream_format.specs.Atoms as atom

-- Made by `./format` from formats/dns_text.fields: edit that file and make this one anew.

-- the lines, in order
abbrev pub dns_text_lines : FormatParts DnsText (Result DnsText Error) (λ s. Ok s)
dns_text_lines = do
  octets_count ← field (atom.unsigned 64 6 refl) (λ s. length s.octets)
  octets ← byte_list octets_count (λ s. s.octets)
  own_done (record { octets = octets })

-- the reads, in order
abbrev pub dns_text_decoder : Order → Decoder (Result DnsText Error)
dns_text_decoder o = dns_text_lines.read o

-- the writes, in order
abbrev pub dns_text_writes : Order → DnsText → List Encoder
dns_text_writes o value = dns_text_lines.write o value

-- each field fits its bits
pub record Fits (value : DnsText) : Type 0 where
  pub octets_count : length value.octets < 2 ^ 6
  pub octets : All (λ b. b < 256) value.octets

-- the number of bits
abbrev pub dns_text_size : Order → DnsText → ℕ
dns_text_size o value = dns_text_lines.size value

-- the format, with the facts that must fit by name
abbrev pub dns_text_format : OwnFormat Error DnsText
dns_text_format = named Fits (format dns_text_lines (λ s. (refl, refl {a = s})))
    (λ s fits. fits.octets_count & fits.octets)

-- the bits of all fields, up to a whole byte
unfoldable pub dns_text_bits : DnsText → List Bool
dns_text_bits value = write_sequence (dns_text_writes High value ++ align ∷ []) 0
