-- A resource record (RFC 1035, 4.1.3).
use Rattle.bitstream_messages.specs.declared.dns_record.DnsRecord.{DnsRecord}
use Rattle.bitstream_messages.specs.declared.dns_record.DnsRecordError.{DnsRecordError}
use Rattle.bitstream_messages.specs.declared.dns_record.DnsRecordError.TheVariants.{Reader, InDnsName}
use Rattle.bitstream_messages.specs.declared.dns_name.DnsName.{DnsName}
use Rattle.bitstream_messages.specs.declared.dns_name.DnsNameError.{DnsNameError}
use Rattle.bitstream_messages.specs.declared.dns_name.DnsNameError.TheVariants.{Reader as DnsNameReader, InDnsLabel as DnsNameInDnsLabel}
use Rattle.bitstream_messages.specs.DnsName.{dns_name_decoder, dns_name_format, Fits as DnsNameFits}
use Rattle.std.proofs.Common.{refl}
use Rattle.bitstream_format.specs.Format.{◌>>=◌, Own as OwnFormat, Parts as FormatParts, format, named, field, own_field, ◌&◌, own_done}
use Rattle.bitstream_format.specs.Lists.{with_error, error_of}
use Rattle.bitstream_format.specs.Measured.{vec}
use Rattle.std.specs.Prelude.{◌≡◌, ◌^◌, ◌<◌, ◌++◌, ◌∷◌, [], ℕ, Bool, List, Result, Ok, length}
use Rattle.std.specs.List.{All}
use Rattle.bitstream_io.specs.Callers.{Decoder, Encoder, pure, Error, Order, High, and_then, align, write_sequence}
use Rattle.bitstream_format.specs.Atoms as atom

-- Made by `./format` from formats/dns_record.fields: edit that file and make this one anew.

-- an error of the reader is one of the type's
abbrev pub becomes_dns_record : Error → DnsRecordError → Type 0
becomes_dns_record error own = own ≡ Reader error

-- an error of a `DnsName`, as an error of the type
abbrev pub dns_name_error : DnsNameError → DnsRecordError
dns_name_error (DnsNameReader error) = Reader error
dns_name_error (DnsNameInDnsLabel error) = InDnsName (DnsNameInDnsLabel error)

-- a result with these errors
abbrev pub dns_name_answer : Result DnsName DnsNameError → Result DnsName DnsRecordError
dns_name_answer = error_of dns_name_error

-- the reads of a `DnsName`, with the errors of the type
abbrev pub dns_name_here : Order → Decoder (Result DnsName DnsRecordError)
dns_name_here o = and_then (dns_name_decoder o) (λ answer. pure (dns_name_answer answer))

-- the lines, in order
abbrev pub dns_record_lines : FormatParts DnsRecord (Result DnsRecord DnsRecordError) (λ s. Ok s)
dns_record_lines = do
  name ← own_field (with_error dns_name_error dns_name_format) (λ s. s.name)
  kind ← field (atom.unsigned 16 16 refl) (λ s. s.kind)
  class ← field (atom.unsigned 16 16 refl) (λ s. s.class)
  ttl ← field (atom.unsigned 32 32 refl) (λ s. s.ttl)
  data_bytes ← field (atom.unsigned 64 16 refl) (λ s. length s.data)
  data_ ← field (vec data_bytes) (λ s. s.data)
  own_done (record { name = name; kind = kind; class = class; ttl = ttl; «data» = data_ })

-- the reads, in order
abbrev pub dns_record_decoder : Order → Decoder (Result DnsRecord DnsRecordError)
dns_record_decoder o = dns_record_lines.read o

-- the writes, in order
abbrev pub dns_record_writes : Order → DnsRecord → List Encoder
dns_record_writes o value = dns_record_lines.write o value

-- each field fits its bits
pub record Fits (value : DnsRecord) : Type 0 where
  pub name : DnsNameFits value.name
  pub kind : value.kind < 2 ^ 16
  pub class : value.class < 2 ^ 16
  pub ttl : value.ttl < 2 ^ 32
  pub data_bytes : length value.data < 2 ^ 16
  pub data_ : All (λ b. b < 256) value.data

-- the number of bits
abbrev pub dns_record_size : Order → DnsRecord → ℕ
dns_record_size o value = dns_record_lines.size value

-- the format, with the facts that must fit by name
abbrev pub dns_record_format : OwnFormat DnsRecordError DnsRecord
dns_record_format = named Fits (format dns_record_lines (λ s. refl {a = s}))
    (λ s fits. fits.name & fits.kind & fits.class & fits.ttl & fits.data_bytes & fits.data_ & refl)

-- the bits of all fields, up to a whole byte
unfoldable pub dns_record_bits : DnsRecord → List Bool
dns_record_bits value = write_sequence (dns_record_writes High value ++ align ∷ []) 0
