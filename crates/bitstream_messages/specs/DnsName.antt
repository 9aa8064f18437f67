-- A domain name: labels up to the empty one, or up to a pointer to the rest of the name (RFC 1035, 4.1.4).
use Rattle.bitstream_messages.specs.declared.dns_name.DnsName.{DnsName}
use Rattle.bitstream_messages.specs.declared.dns_name.DnsNameError.{DnsNameError}
use Rattle.bitstream_messages.specs.declared.dns_name.DnsNameError.TheVariants.{Reader, InDnsLabel}
use Rattle.bitstream_messages.specs.declared.dns_label.Body.{Body as DnsLabelBody}
use Rattle.bitstream_messages.specs.declared.dns_label.Body.TheVariants.{Text as DnsLabelBodyText, Pointer as DnsLabelBodyPointer}
use Rattle.bitstream_messages.specs.declared.dns_label.DnsLabel.{DnsLabel}
use Rattle.bitstream_messages.specs.declared.dns_label.DnsLabelError.{DnsLabelError}
use Rattle.bitstream_messages.specs.declared.dns_label.DnsLabelError.TheVariants.{Reader as DnsLabelReader, NoBody as DnsLabelNoBody}
use Rattle.bitstream_messages.specs.DnsLabel.{body_number as dns_label_body_number, dns_label_decoder, dns_label_format, Fits as DnsLabelFits}
use Rattle.std.proofs.Common.{refl}
use Rattle.bitstream_format.specs.Format.{◌>>=◌, Own as OwnFormat, Parts as FormatParts, format, named, own_field, ◌&◌, own_done}
use Rattle.bitstream_format.specs.Lists.{with_error, error_of, up_to_last}
use Rattle.std.specs.Prelude.{◌≡◌, ◌^◌, ◌≤◌, ◌++◌, ◌∷◌, [], ◌==◌, ◌||◌, ℕ, Bool, false, List, Result, Ok, length}
use Rattle.std.specs.List.{All}
use Rattle.bitstream_io.specs.Callers.{Decoder, Encoder, pure, Error, Order, High, and_then, align, write_sequence}
use Rattle.bitstream_format.specs.UpToLast.{EndsOnce}

-- Made by `./format` from formats/dns_name.fields: edit that file and make this one anew.

-- an error of the reader is one of the type's
abbrev pub becomes_dns_name : Error → DnsNameError → Type 0
becomes_dns_name error own = own ≡ Reader error

-- an error of a `DnsLabel`, as an error of the type
abbrev pub dns_label_error : DnsLabelError → DnsNameError
dns_label_error (DnsLabelReader error) = Reader error
dns_label_error DnsLabelNoBody = InDnsLabel DnsLabelNoBody

-- a result with these errors
abbrev pub dns_label_answer : Result DnsLabel DnsLabelError → Result DnsLabel DnsNameError
dns_label_answer = error_of dns_label_error

-- the reads of a `DnsLabel`, with the errors of the type
abbrev pub dns_label_here : Order → Decoder (Result DnsLabel DnsNameError)
dns_label_here o = and_then (dns_label_decoder o) (λ answer. pure (dns_label_answer answer))

-- true for a case with a field `octets` that has no item
abbrev pub labels_body_octets_empty : DnsLabelBody → Bool
labels_body_octets_empty (DnsLabelBodyText it) = length it.octets == 0
labels_body_octets_empty (DnsLabelBodyPointer it) = false

-- true for the last part of `labels`, which has `body == Pointer or empty body.octets`
abbrev pub labels_last : DnsLabel → Bool
labels_last it = (dns_label_body_number it.body == 3) || labels_body_octets_empty it.body

-- the lines, in order
abbrev pub dns_name_lines : FormatParts DnsName (Result DnsName DnsNameError) (λ s. Ok s)
dns_name_lines = do
  labels ← own_field (up_to_last labels_last (with_error dns_label_error dns_label_format)) (λ s. s.labels)
  own_done (record { labels = labels })

-- the reads, in order
abbrev pub dns_name_decoder : Order → Decoder (Result DnsName DnsNameError)
dns_name_decoder o = dns_name_lines.read o

-- the writes, in order
abbrev pub dns_name_writes : Order → DnsName → List Encoder
dns_name_writes o value = dns_name_lines.write o value

-- each field fits its bits
pub record Fits (value : DnsName) : Type 0 where
  pub labels : All DnsLabelFits value.labels
  pub labels_once : EndsOnce labels_last value.labels
  pub labels_most : length value.labels ≤ 2 ^ 32

-- the number of bits
abbrev pub dns_name_size : Order → DnsName → ℕ
dns_name_size o value = dns_name_lines.size value

-- the format, with the facts that must fit by name
abbrev pub dns_name_format : OwnFormat DnsNameError DnsName
dns_name_format = named Fits (format dns_name_lines (λ s. refl {a = s}))
    (λ s fits. fits.labels & fits.labels_once & fits.labels_most)

-- the bits of all fields, up to a whole byte
unfoldable pub dns_name_bits : DnsName → List Bool
dns_name_bits value = write_sequence (dns_name_writes High value ++ align ∷ []) 0
