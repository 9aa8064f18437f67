-- A message of the Domain Name System (RFC 1035, 4.1, and RFC 4035, 3).
use Rattle.bitstream_messages.specs.declared.dns_message.DnsMessage.{DnsMessage}
use Rattle.bitstream_messages.specs.declared.dns_message.DnsMessageError.{DnsMessageError}
use Rattle.bitstream_messages.specs.declared.dns_message.DnsMessageError.TheVariants.{Reader, ReservedSet, InDnsQuestion, InDnsRecord}
use Rattle.bitstream_messages.specs.declared.dns_question.DnsQuestion.{DnsQuestion}
use Rattle.bitstream_messages.specs.declared.dns_question.DnsQuestionError.{DnsQuestionError}
use Rattle.bitstream_messages.specs.declared.dns_question.DnsQuestionError.TheVariants.{Reader as DnsQuestionReader, InDnsName as DnsQuestionInDnsName}
use Rattle.bitstream_messages.specs.declared.dns_record.DnsRecord.{DnsRecord}
use Rattle.bitstream_messages.specs.declared.dns_record.DnsRecordError.{DnsRecordError}
use Rattle.bitstream_messages.specs.declared.dns_record.DnsRecordError.TheVariants.{Reader as DnsRecordReader, InDnsName as DnsRecordInDnsName}
use Rattle.bitstream_messages.specs.DnsQuestion.{dns_question_decoder, dns_question_format, Fits as DnsQuestionFits}
use Rattle.bitstream_messages.specs.DnsRecord.{dns_record_decoder, dns_record_format, Fits as DnsRecordFits}
use Rattle.std.proofs.Common.{refl}
use Rattle.bitstream_format.specs.Format.{◌>>=◌, Own as OwnFormat, Parts as FormatParts, format, named, field, const, ◌&◌, own_done}
use Rattle.bitstream_format.specs.Lists.{own_list, with_error, error_of}
use Rattle.std.specs.Prelude.{◌≡◌, ◌^◌, ◌<◌, ◌++◌, ◌∷◌, [], ℕ, Bool, List, Result, Ok, length}
use Rattle.std.specs.List.{All}
use Rattle.bitstream_io.specs.Callers.{Decoder, Encoder, pure, Error, Order, High, and_then, align, write_sequence}
use Rattle.bitstream_format.specs.Atoms as atom

-- Made by `./format` from formats/dns_message.fields: edit that file and make this one anew.

-- an error of the reader is one of the type's
abbrev pub becomes_dns_message : Error → DnsMessageError → Type 0
becomes_dns_message error own = own ≡ Reader error

-- an error of a `DnsQuestion`, as an error of the type
abbrev pub dns_question_error : DnsQuestionError → DnsMessageError
dns_question_error (DnsQuestionReader error) = Reader error
dns_question_error (DnsQuestionInDnsName error) = InDnsQuestion (DnsQuestionInDnsName error)

-- a result with these errors
abbrev pub dns_question_answer : Result DnsQuestion DnsQuestionError → Result DnsQuestion DnsMessageError
dns_question_answer = error_of dns_question_error

-- the reads of a `DnsQuestion`, with the errors of the type
abbrev pub dns_question_here : Order → Decoder (Result DnsQuestion DnsMessageError)
dns_question_here o = and_then (dns_question_decoder o) (λ answer. pure (dns_question_answer answer))

-- an error of a `DnsRecord`, as an error of the type
abbrev pub dns_record_error : DnsRecordError → DnsMessageError
dns_record_error (DnsRecordReader error) = Reader error
dns_record_error (DnsRecordInDnsName error) = InDnsRecord (DnsRecordInDnsName error)

-- a result with these errors
abbrev pub dns_record_answer : Result DnsRecord DnsRecordError → Result DnsRecord DnsMessageError
dns_record_answer = error_of dns_record_error

-- the reads of a `DnsRecord`, with the errors of the type
abbrev pub dns_record_here : Order → Decoder (Result DnsRecord DnsMessageError)
dns_record_here o = and_then (dns_record_decoder o) (λ answer. pure (dns_record_answer answer))

-- the lines, in order, the next of them
abbrev pub dns_message_lines_2 : ℕ → Bool → ℕ → Bool → Bool → Bool → Bool → Bool → Bool → ℕ → ℕ → ℕ → ℕ → ℕ → List
    DnsQuestion → FormatParts DnsMessage (Result DnsMessage DnsMessageError) (λ s. Ok s)
dns_message_lines_2 id response opcode authoritative truncated recursion available authentic unchecked code
    questions_count answers_count authorities_count additional_count questions = do
      answers ← own_list answers_count (with_error dns_record_error dns_record_format) (λ s. s.answers)
      authorities ← own_list authorities_count (with_error dns_record_error dns_record_format) (λ s. s.authorities)
      additional ← own_list additional_count (with_error dns_record_error dns_record_format) (λ s. s.additional)
      own_done (record {
        id = id;
        response = response;
        opcode = opcode;
        authoritative = authoritative;
        truncated =
            truncated;
        recursion = recursion;
        available = available;
        authentic = authentic;
        unchecked = unchecked;
        code =
            code;
        questions = questions;
        answers = answers;
        authorities = authorities;
        additional = additional;
      })

-- the lines, in order, the next of them
abbrev pub dns_message_lines_1 : ℕ → Bool → ℕ → Bool → Bool → Bool → Bool → FormatParts DnsMessage (Result DnsMessage
    DnsMessageError) (λ s. Ok s)
dns_message_lines_1 id response opcode authoritative truncated recursion available = do
  authentic ← field atom.bool (λ s. s.authentic)
  unchecked ← field atom.bool (λ s. s.unchecked)
  code ← field (atom.unsigned 8 4 refl) (λ s. s.code)
  questions_count ← field (atom.unsigned 64 16 refl) (λ s. length s.questions)
  answers_count ← field (atom.unsigned 64 16 refl) (λ s. length s.answers)
  authorities_count ← field (atom.unsigned 64 16 refl) (λ s. length s.authorities)
  additional_count ← field (atom.unsigned 64 16 refl) (λ s. length s.additional)
  questions ← own_list questions_count (with_error dns_question_error dns_question_format) (λ s. s.questions)
  dns_message_lines_2 id response opcode authoritative truncated recursion available authentic unchecked code
      questions_count answers_count authorities_count additional_count questions

-- the lines, in order
abbrev pub dns_message_lines : FormatParts DnsMessage (Result DnsMessage DnsMessageError) (λ s. Ok s)
dns_message_lines = do
  id ← field (atom.unsigned 16 16 refl) (λ s. s.id)
  response ← field atom.bool (λ s. s.response)
  opcode ← field (atom.unsigned 8 4 refl) (λ s. s.opcode)
  authoritative ← field atom.bool (λ s. s.authoritative)
  truncated ← field atom.bool (λ s. s.truncated)
  recursion ← field atom.bool (λ s. s.recursion)
  available ← field atom.bool (λ s. s.available)
  constant_7 ← const 1 0 refl ReservedSet
  dns_message_lines_1 id response opcode authoritative truncated recursion available

-- the reads, in order
abbrev pub dns_message_decoder : Order → Decoder (Result DnsMessage DnsMessageError)
dns_message_decoder o = dns_message_lines.read o

-- the reads, in order, the next of them
abbrev pub dns_message_decoder_1 : Order → ℕ → Bool → ℕ → Bool → Bool → Bool → Bool → Decoder (Result DnsMessage
    DnsMessageError)
dns_message_decoder_1 o id response opcode authoritative truncated recursion available = (dns_message_lines_1 id
    response opcode authoritative truncated recursion available).read o

-- the reads, in order, the next of them
abbrev pub dns_message_decoder_2 : Order → ℕ → Bool → ℕ → Bool → Bool → Bool → Bool → Bool → Bool → ℕ → ℕ → ℕ → ℕ → ℕ →
    List DnsQuestion → Decoder (Result DnsMessage DnsMessageError)
dns_message_decoder_2 o id response opcode authoritative truncated recursion available authentic unchecked code
    questions_count answers_count authorities_count additional_count questions = (dns_message_lines_2 id response opcode
    authoritative truncated recursion available authentic unchecked code questions_count answers_count authorities_count
    additional_count questions).read o

-- the writes, in order
abbrev pub dns_message_writes : Order → DnsMessage → List Encoder
dns_message_writes o value = dns_message_lines.write o value

-- the writes, in order, the next of them
abbrev pub dns_message_writes_2 : Order → DnsMessage → List Encoder
dns_message_writes_2 o value = (dns_message_lines_1 value.id value.response value.opcode value.authoritative
    value.truncated value.recursion value.available).write o value

-- the writes, in order, the next of them
abbrev pub dns_message_writes_3 : Order → DnsMessage → List Encoder
dns_message_writes_3 o value = (dns_message_lines_2 value.id value.response value.opcode value.authoritative
    value.truncated value.recursion value.available value.authentic value.unchecked value.code (length value.questions)
    (length value.answers) (length value.authorities) (length value.additional) value.questions).write o value

-- each field fits its bits
pub record Fits (value : DnsMessage) : Type 0 where
  pub id : value.id < 2 ^ 16
  pub opcode : value.opcode < 2 ^ 4
  pub code : value.code < 2 ^ 4
  pub questions_count : length value.questions < 2 ^ 16
  pub answers_count : length value.answers < 2 ^ 16
  pub authorities_count : length value.authorities < 2 ^ 16
  pub additional_count : length value.additional < 2 ^ 16
  pub questions : All DnsQuestionFits value.questions
  pub answers : All DnsRecordFits value.answers
  pub authorities : All DnsRecordFits value.authorities
  pub additional : All DnsRecordFits value.additional

-- the number of bits
abbrev pub dns_message_size : Order → DnsMessage → ℕ
dns_message_size o value = dns_message_lines.size value

-- the format, with the facts that must fit by name
abbrev pub dns_message_format : OwnFormat DnsMessageError DnsMessage
dns_message_format = named Fits (format dns_message_lines (λ s. (refl, (refl, (refl, (refl, refl {a = s}))))))
    (λ s fits. fits.id & fits.opcode & fits.code & fits.questions_count & fits.answers_count & fits.authorities_count &
    fits.additional_count & fits.questions & fits.answers & fits.authorities & fits.additional)

-- the bits of all fields, up to a whole byte
unfoldable pub dns_message_bits : DnsMessage → List Bool
dns_message_bits value = write_sequence (dns_message_writes High value ++ align ∷ []) 0
