-- The header of a DNS message (RFC 1035, section 4.1.1, and RFC 4035, section 3).
use Rattle.protocols.specs.declared.dns_header.DnsHeader.{DnsHeader}
use Rattle.protocols.specs.declared.dns_header.DnsHeaderError.{DnsHeaderError}
use Rattle.protocols.specs.declared.dns_header.DnsHeaderError.TheVariants.{Reader, ReservedSet}
use Rattle.protocols.specs.declared.dns_header.Code.{Code}
use Rattle.protocols.specs.declared.dns_header.Code.TheVariants.{NoError, FormatError, ServerFailure, NoSuchName, NotImplemented, Refuses, Other}
use Rattle.std.proofs.Common.{refl}
use Rattle.bitstream_format.specs.Format.{◌>>=◌, Plain as PlainFormat, Own as OwnFormat, Parts as FormatParts, format, named, field, const, ◌&◌, own_done}
use Rattle.bitstream_format.specs.Cases.{open_cases}
use Rattle.std.specs.Prelude.{◌≡◌, ◌^◌, ◌<◌, ◌++◌, ◌∷◌, [], ◌==◌, if◌then◌else◌, ℕ, Bool, List, Result, Ok, take, drop}
use Rattle.bitstream_io.specs.Callers.{Decoder, Encoder, pure, Error, Order, High, number, and_then, first_bit, unsigned_decoder, align, write_sequence}
use Rattle.bitstream_format.specs.Atoms as atom

-- Made by `./format` from formats/dns_header.fields: edit that file and make this one anew.

-- an error of the reader is one of the type's
abbrev pub becomes_dns_header : Error → DnsHeaderError → Type 0
becomes_dns_header error own = own ≡ Reader error

-- n bits after the first k
abbrev pub bits_at : ℕ → ℕ → List Bool → List Bool
bits_at k n bits = take n (drop k bits)

-- the 1 bits at 25, which are 0
abbrev pub const_at_25 : List Bool → ℕ
const_at_25 bits = number High (bits_at 25 1 bits)

-- the case of a number
abbrev pub code_of : ℕ → Code
code_of n = if n == 0 then NoError else if n == 1 then FormatError else if n == 2 then ServerFailure else if n == 3 then
    NoSuchName else if n == 4 then NotImplemented else if n == 5 then Refuses else Other n

-- the number of a case
abbrev pub code_number : Code → ℕ
code_number NoError = 0
code_number FormatError = 1
code_number ServerFailure = 2
code_number NoSuchName = 3
code_number NotImplemented = 4
code_number Refuses = 5
code_number (Other n) = n

-- the read of a case
abbrev pub code_read : Order → Decoder Code
code_read o = and_then (unsigned_decoder o 8 4) (λ v. pure (code_of v))

-- the cases, by their numbers
abbrev pub code_cases : PlainFormat Code
code_cases = open_cases 8 4 refl code_of code_number

-- the lines, in order
abbrev pub dns_header_lines : FormatParts DnsHeader (Result DnsHeader DnsHeaderError) (λ s. Ok s)
dns_header_lines = do
  id ← field (atom.unsigned 16 16 refl) (λ s. s.id)
  response ← field atom.bool (λ s. s.response)
  opcode ← field (atom.unsigned 8 4 refl) (λ s. s.opcode)
  authoritative ← field atom.bool (λ s. s.authoritative)
  truncated ← field atom.bool (λ s. s.truncated)
  recursion ← field atom.bool (λ s. s.recursion)
  available ← field atom.bool (λ s. s.available)
  constant_7 ← const 1 0 refl ReservedSet
  authentic ← field atom.bool (λ s. s.authentic)
  unchecked ← field atom.bool (λ s. s.unchecked)
  code ← field code_cases (λ s. s.code)
  questions ← field (atom.unsigned 16 16 refl) (λ s. s.questions)
  answers ← field (atom.unsigned 16 16 refl) (λ s. s.answers)
  authorities ← field (atom.unsigned 16 16 refl) (λ s. s.authorities)
  additional ← field (atom.unsigned 16 16 refl) (λ s. s.additional)
  own_done (record {
    id = id;
    response = response;
    opcode = opcode;
    authoritative = authoritative;
    truncated =
        truncated;
    recursion = recursion;
    available = available;
    authentic = authentic;
    unchecked = unchecked;
    code =
        code;
    questions = questions;
    answers = answers;
    authorities = authorities;
    additional = additional;
  })

-- the reads, in order
abbrev pub dns_header_decoder : Order → Decoder (Result DnsHeader DnsHeaderError)
dns_header_decoder o = dns_header_lines.read o

-- the writes, in order
abbrev pub dns_header_writes : Order → DnsHeader → List Encoder
dns_header_writes o value = dns_header_lines.write o value

-- each field fits its bits
pub record Fits (value : DnsHeader) : Type 0 where
  pub id : value.id < 2 ^ 16
  pub opcode : value.opcode < 2 ^ 4
  pub code : code_number value.code < 2 ^ 4
  pub code_again : code_of (code_number value.code) ≡ value.code
  pub questions : value.questions < 2 ^ 16
  pub answers : value.answers < 2 ^ 16
  pub authorities : value.authorities < 2 ^ 16
  pub additional : value.additional < 2 ^ 16

-- the number of bits
abbrev pub dns_header_size : Order → DnsHeader → ℕ
dns_header_size o value = 96

-- the format, with the facts that must fit by name
abbrev pub dns_header_format : OwnFormat DnsHeaderError DnsHeader
dns_header_format = named Fits (format dns_header_lines (λ s. refl {a = s}))
    (λ s fits. fits.id & fits.opcode & fits.code & fits.code_again & fits.questions & fits.answers & fits.authorities &
    fits.additional)

-- the bits of all fields, up to a whole byte
unfoldable pub dns_header_bits : DnsHeader → List Bool
dns_header_bits value = write_sequence (dns_header_writes High value ++ align ∷ []) 0

-- the fields in bits, each by its place
abbrev pub dns_header_at : List Bool → DnsHeader
dns_header_at bits = record {
  id = number High (bits_at 0 16 bits);
  response = first_bit (bits_at 16 1 bits);
  opcode = number High (bits_at 17 4 bits);
  authoritative = first_bit (bits_at 21 1 bits);
  truncated = first_bit (bits_at 22 1 bits);
  recursion = first_bit (bits_at 23 1 bits);
  available = first_bit (bits_at 24 1 bits);
  authentic = first_bit (bits_at 26 1 bits);
  unchecked = first_bit (bits_at 27 1 bits);
  code = code_of (number High (bits_at 28 4 bits));
  questions = number High (bits_at 32 16 bits);
  answers = number High (bits_at 48 16 bits);
  authorities = number High (bits_at 64 16 bits);
  additional = number High (bits_at 80 16 bits);
}
