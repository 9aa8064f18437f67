-- A record of TLS (RFC 8446, section 5.1; RFC 5246, section 6.2.1).
use Rattle.bitstream_messages.specs.declared.tls_record.TlsRecord.{TlsRecord}
use Rattle.bitstream_messages.specs.declared.tls_record.Content.{Content}
use Rattle.bitstream_messages.specs.declared.tls_record.Content.TheVariants.{ChangeCipherSpec, Alert, Handshake, Data, Other}
use Rattle.std.proofs.Common.{refl}
use Rattle.bitstream_format.specs.Format.{◌>>=◌, Plain as PlainFormat, Own as OwnFormat, Parts as FormatParts, format, named, field, ◌&◌, own_done}
use Rattle.bitstream_format.specs.Cases.{open_cases}
use Rattle.bitstream_format.specs.Measured.{vec}
use Rattle.std.specs.Prelude.{◌≡◌, ◌^◌, ◌<◌, ◌++◌, ◌∷◌, [], ◌==◌, if◌then◌else◌, ℕ, Bool, List, Result, Ok, length}
use Rattle.std.specs.List.{All}
use Rattle.bitstream_io.specs.Callers.{Decoder, Encoder, pure, Error, Order, High, and_then, unsigned_decoder, align, write_sequence}
use Rattle.bitstream_format.specs.Atoms as atom

-- Made by `./format` from formats/tls_record.fields: edit that file and make this one anew.

-- the case of a number
abbrev pub content_of : ℕ → Content
content_of n = if n == 20 then ChangeCipherSpec else if n == 21 then Alert else if n == 22 then Handshake else if n ==
    23 then Data else Other n

-- the number of a case
abbrev pub content_number : Content → ℕ
content_number ChangeCipherSpec = 20
content_number Alert = 21
content_number Handshake = 22
content_number Data = 23
content_number (Other n) = n

-- the read of a case
abbrev pub content_read : Order → Decoder Content
content_read o = and_then (unsigned_decoder o 8 8) (λ v. pure (content_of v))

-- the cases, by their numbers
abbrev pub content_cases : PlainFormat Content
content_cases = open_cases 8 8 refl content_of content_number

-- the lines, in order
abbrev pub tls_record_lines : FormatParts TlsRecord (Result TlsRecord Error) (λ s. Ok s)
tls_record_lines = do
  content ← field content_cases (λ s. s.content)
  version ← field (atom.unsigned 16 16 refl) (λ s. s.version)
  fragment_bytes ← field (atom.unsigned 64 16 refl) (λ s. length s.fragment)
  fragment ← field (vec fragment_bytes) (λ s. s.fragment)
  own_done (record { content = content; version = version; fragment = fragment })

-- the reads, in order
abbrev pub tls_record_decoder : Order → Decoder (Result TlsRecord Error)
tls_record_decoder o = tls_record_lines.read o

-- the writes, in order
abbrev pub tls_record_writes : Order → TlsRecord → List Encoder
tls_record_writes o value = tls_record_lines.write o value

-- each field fits its bits
pub record Fits (value : TlsRecord) : Type 0 where
  pub content : content_number value.content < 2 ^ 8
  pub content_again : content_of (content_number value.content) ≡ value.content
  pub version : value.version < 2 ^ 16
  pub fragment_bytes : length value.fragment < 2 ^ 16
  pub fragment : All (λ b. b < 256) value.fragment

-- the number of bits
abbrev pub tls_record_size : Order → TlsRecord → ℕ
tls_record_size o value = tls_record_lines.size value

-- the format, with the facts that must fit by name
abbrev pub tls_record_format : OwnFormat Error TlsRecord
tls_record_format = named Fits (format tls_record_lines (λ s. refl {a = s}))
    (λ s fits. fits.content & fits.content_again & fits.version & fits.fragment_bytes & fits.fragment & refl)

-- the bits of all fields, up to a whole byte
unfoldable pub tls_record_bits : TlsRecord → List Bool
tls_record_bits value = write_sequence (tls_record_writes High value ++ align ∷ []) 0
