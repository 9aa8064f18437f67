-- A question of a DNS message (RFC 1035, 4.1.2).
use Rattle.bitstream_messages.specs.declared.dns_question.DnsQuestion.{DnsQuestion}
use Rattle.bitstream_messages.specs.declared.dns_question.DnsQuestionError.{DnsQuestionError}
use Rattle.bitstream_messages.specs.declared.dns_question.DnsQuestionError.TheVariants.{Reader, InDnsName}
use Rattle.bitstream_messages.specs.declared.dns_name.DnsName.{DnsName}
use Rattle.bitstream_messages.specs.declared.dns_name.DnsNameError.{DnsNameError}
use Rattle.bitstream_messages.specs.declared.dns_name.DnsNameError.TheVariants.{Reader as DnsNameReader, InDnsLabel as DnsNameInDnsLabel}
use Rattle.bitstream_messages.specs.DnsName.{dns_name_decoder, dns_name_format, Fits as DnsNameFits}
use Rattle.std.proofs.Common.{refl}
use Rattle.bitstream_format.specs.Format.{◌>>=◌, Own as OwnFormat, Parts as FormatParts, format, named, field, own_field, ◌&◌, own_done}
use Rattle.bitstream_format.specs.Lists.{with_error, error_of}
use Rattle.std.specs.Prelude.{◌≡◌, ◌^◌, ◌<◌, ◌++◌, ◌∷◌, [], ℕ, Bool, List, Result, Ok}
use Rattle.bitstream_io.specs.Callers.{Decoder, Encoder, pure, Error, Order, High, and_then, align, write_sequence}
use Rattle.bitstream_format.specs.Atoms as atom

-- Made by `./format` from formats/dns_question.fields: edit that file and make this one anew.

-- an error of the reader is one of the type's
abbrev pub becomes_dns_question : Error → DnsQuestionError → Type 0
becomes_dns_question error own = own ≡ Reader error

-- an error of a `DnsName`, as an error of the type
abbrev pub dns_name_error : DnsNameError → DnsQuestionError
dns_name_error (DnsNameReader error) = Reader error
dns_name_error (DnsNameInDnsLabel error) = InDnsName (DnsNameInDnsLabel error)

-- a result with these errors
abbrev pub dns_name_answer : Result DnsName DnsNameError → Result DnsName DnsQuestionError
dns_name_answer = error_of dns_name_error

-- the reads of a `DnsName`, with the errors of the type
abbrev pub dns_name_here : Order → Decoder (Result DnsName DnsQuestionError)
dns_name_here o = and_then (dns_name_decoder o) (λ answer. pure (dns_name_answer answer))

-- the lines, in order
abbrev pub dns_question_lines : FormatParts DnsQuestion (Result DnsQuestion DnsQuestionError) (λ s. Ok s)
dns_question_lines = do
  name ← own_field (with_error dns_name_error dns_name_format) (λ s. s.name)
  kind ← field (atom.unsigned 16 16 refl) (λ s. s.kind)
  class ← field (atom.unsigned 16 16 refl) (λ s. s.class)
  own_done (record { name = name; kind = kind; class = class })

-- the reads, in order
abbrev pub dns_question_decoder : Order → Decoder (Result DnsQuestion DnsQuestionError)
dns_question_decoder o = dns_question_lines.read o

-- the writes, in order
abbrev pub dns_question_writes : Order → DnsQuestion → List Encoder
dns_question_writes o value = dns_question_lines.write o value

-- each field fits its bits
pub record Fits (value : DnsQuestion) : Type 0 where
  pub name : DnsNameFits value.name
  pub kind : value.kind < 2 ^ 16
  pub class : value.class < 2 ^ 16

-- the number of bits
abbrev pub dns_question_size : Order → DnsQuestion → ℕ
dns_question_size o value = dns_question_lines.size value

-- the format, with the facts that must fit by name
abbrev pub dns_question_format : OwnFormat DnsQuestionError DnsQuestion
dns_question_format = named Fits (format dns_question_lines (λ s. refl {a = s}))
    (λ s fits. fits.name & fits.kind & fits.class)

-- the bits of all fields, up to a whole byte
unfoldable pub dns_question_bits : DnsQuestion → List Bool
dns_question_bits value = write_sequence (dns_question_writes High value ++ align ∷ []) 0
