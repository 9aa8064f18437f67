-- A label of a domain name, or a pointer to the rest of the name (RFC 1035, 4.1.4).
use Rattle.bitstream_messages.specs.declared.dns_label.DnsLabel.{DnsLabel}
use Rattle.bitstream_messages.specs.declared.dns_label.DnsLabelError.{DnsLabelError}
use Rattle.bitstream_messages.specs.declared.dns_label.DnsLabelError.TheVariants.{Reader, NoBody}
use Rattle.bitstream_messages.specs.declared.dns_label.Body.{Body}
use Rattle.bitstream_messages.specs.declared.dns_label.Body.TheVariants.{Text as BodyText, Pointer as BodyPointer}
use Rattle.bitstream_messages.specs.declared.dns_text.DnsText.{DnsText}
use Rattle.bitstream_messages.specs.DnsText.{dns_text_decoder, dns_text_writes, dns_text_size, dns_text_format, Fits as DnsTextFits}
use Rattle.bitstream_messages.specs.DnsPointer.{dns_pointer_decoder, dns_pointer_writes, dns_pointer_size, dns_pointer_format, Fits as DnsPointerFits}
use Rattle.std.proofs.Common.{refl, arith}
use Rattle.bitstream_format.specs.Format.{◌>>=◌, Own as OwnFormat, Parts as FormatParts, format, named, field, own_field, ◌&◌, own_done}
use Rattle.bitstream_format.specs.Lists.{with_error, error_of}
use Rattle.bitstream_format.specs.Chosen.{Choice as FormatChoice, chosen, Goes as CaseGoes, held-goes, plain_held-goes}
use Rattle.std.specs.Prelude.{◌≡◌, ◌^◌, ◌<◌, ◌++◌, ◌∷◌, [], ◌==◌, if◌then◌else◌, ℕ, Bool, List, Result, Ok, Err}
use Rattle.bitstream_io.specs.Callers.{Decoder, Encoder, pure, Error, Order, High, and_then, align, write_sequence, part_then}
use Rattle.bitstream_format.specs.Atoms as atom

-- Made by `./format` from formats/dns_label.fields: edit that file and make this one anew.

-- an error of the reader is one of the type's
abbrev pub becomes_dns_label : Error → DnsLabelError → Type 0
becomes_dns_label error own = own ≡ Reader error

-- an error of a `DnsText`, as an error of the type
abbrev pub dns_text_error : Error → DnsLabelError
dns_text_error error = Reader error

-- a result with these errors
abbrev pub dns_text_answer : Result DnsText Error → Result DnsText DnsLabelError
dns_text_answer = error_of dns_text_error

-- the reads of a `DnsText`, with the errors of the type
abbrev pub dns_text_here : Order → Decoder (Result DnsText DnsLabelError)
dns_text_here o = and_then (dns_text_decoder o) (λ answer. pure (dns_text_answer answer))

-- the number of the case of a `Body`
abbrev pub body_number : Body → ℕ
body_number (BodyText it) = 0
body_number (BodyPointer it) = 3

-- the reads of the case with the number n
abbrev pub body_read : Order → ℕ → Decoder (Result Body DnsLabelError)
body_read o n = if n == 0 then and_then (dns_text_here o) (part_then (λ it. pure (Ok (BodyText it)))) else if n == 3
    then and_then (dns_pointer_decoder o) (λ it. pure (Ok (BodyPointer it))) else pure (Err NoBody)

-- the writes behind the number
abbrev pub body_writes : Order → Body → List Encoder
body_writes o (BodyText it) = dns_text_writes o it
body_writes o (BodyPointer it) = dns_pointer_writes o it

-- the number of their bits
abbrev pub body_size : Order → Body → ℕ
body_size o (BodyText it) = dns_text_size o it
body_size o (BodyPointer it) = dns_pointer_size o it

-- the case fits its bits
abbrev pub body_fits : Body → Type 0
body_fits (BodyText it) = DnsTextFits it
body_fits (BodyPointer it) = DnsPointerFits it

-- the number of each case fits its bits
pub body_small : (it : Body) → body_fits it → body_number it < 2 ^ 2
body_small (BodyText it) fits = omega arith
body_small (BodyPointer it) fits = omega arith

-- each case is read back behind its number, and its writes are accepted
pub body_goes : (o : Order) (it : Body) → body_fits it
    → CaseGoes (body_read o (body_number it)) (body_writes o it) (Ok it) (body_size High it)
body_goes o (BodyText it) fits = held-goes (with_error dns_text_error dns_text_format) (λ v. BodyText v) o it fits
body_goes o (BodyPointer it) fits = plain_held-goes dns_pointer_format (λ v. Ok (BodyPointer v)) o it fits

-- the choice
abbrev pub body_choice : FormatChoice Body (Result Body DnsLabelError) (λ it. Ok it)
body_choice = record {
  number = body_number;
  read = body_read;
  write = body_writes;
  size = body_size High;
  fits =
      body_fits;
  goes = body_goes;
}

-- the lines, in order
abbrev pub dns_label_lines : FormatParts DnsLabel (Result DnsLabel DnsLabelError) (λ s. Ok s)
dns_label_lines = do
  body_tag ← field (atom.unsigned 8 2 refl) (λ s. body_number s.body)
  body ← own_field (chosen body_choice body_tag) (λ s. s.body)
  own_done (record { body = body })

-- the reads, in order
abbrev pub dns_label_decoder : Order → Decoder (Result DnsLabel DnsLabelError)
dns_label_decoder o = dns_label_lines.read o

-- the writes, in order
abbrev pub dns_label_writes : Order → DnsLabel → List Encoder
dns_label_writes o value = dns_label_lines.write o value

-- each field fits its bits
pub record Fits (value : DnsLabel) : Type 0 where
  pub body : body_fits value.body

-- the number of bits
abbrev pub dns_label_size : Order → DnsLabel → ℕ
dns_label_size o value = dns_label_lines.size value

-- the format, with the facts that must fit by name
abbrev pub dns_label_format : OwnFormat DnsLabelError DnsLabel
dns_label_format = named Fits (format dns_label_lines (λ s. refl {a = s}))
    (λ s fits. body_small s.body fits.body & fits.body & refl)

-- the bits of all fields, up to a whole byte
unfoldable pub dns_label_bits : DnsLabel → List Bool
dns_label_bits value = write_sequence (dns_label_writes High value ++ align ∷ []) 0
