-- A message of one of four kinds.
use Rattle.bitstream_messages.specs.declared.message.Message.{Message}
use Rattle.bitstream_messages.specs.declared.message.MessageError.{MessageError}
use Rattle.bitstream_messages.specs.declared.message.MessageError.TheVariants.{Reader, NoBody, InMark}
use Rattle.bitstream_messages.specs.declared.message.Body.{Body}
use Rattle.bitstream_messages.specs.declared.message.Body.TheVariants.{Ack as BodyAck, First as BodyFirst, Stop as BodyStop, Mark as BodyMark}
use Rattle.bitstream_messages.specs.declared.notes.Notes.{Notes}
use Rattle.bitstream_messages.specs.declared.mark.Mark.{Mark}
use Rattle.bitstream_messages.specs.declared.mark.MarkError.{MarkError}
use Rattle.bitstream_messages.specs.declared.mark.MarkError.TheVariants.{Reader as MarkReader, NoMark as MarkNoMark}
use Rattle.bitstream_messages.specs.Ack.{ack_decoder, ack_writes, ack_size, ack_format, Fits as AckFits}
use Rattle.bitstream_messages.specs.Notes.{notes_decoder, notes_writes, notes_size, notes_format, Fits as NotesFits}
use Rattle.bitstream_messages.specs.Mark.{mark_decoder, mark_writes, mark_size, mark_format, Fits as MarkFits}
use Rattle.std.proofs.Common.{refl, arith}
use Rattle.bitstream_format.specs.Format.{◌>>=◌, Own as OwnFormat, Parts as FormatParts, format, named, field, own_field, ◌&◌, own_done}
use Rattle.bitstream_format.specs.Lists.{with_error, error_of}
use Rattle.bitstream_format.specs.Chosen.{Choice as FormatChoice, chosen, Goes as CaseGoes, held-goes, plain_held-goes, alone-goes}
use Rattle.std.specs.Prelude.{◌≡◌, ◌^◌, ◌<◌, ◌++◌, ◌∷◌, [], ◌==◌, if◌then◌else◌, ℕ, Bool, List, Result, Ok, Err, ⊤}
use Rattle.bitstream_io.specs.Callers.{Decoder, Encoder, pure, Error, Order, High, and_then, align, write_sequence, part_then}
use Rattle.bitstream_format.specs.Atoms as atom

-- Made by `./format` from formats/message.fields: edit that file and make this one anew.

-- an error of the reader is one of the type's
abbrev pub becomes_message : Error → MessageError → Type 0
becomes_message error own = own ≡ Reader error

-- an error of a `Notes`, as an error of the type
abbrev pub notes_error : Error → MessageError
notes_error error = Reader error

-- a result with these errors
abbrev pub notes_answer : Result Notes Error → Result Notes MessageError
notes_answer = error_of notes_error

-- the reads of a `Notes`, with the errors of the type
abbrev pub notes_here : Order → Decoder (Result Notes MessageError)
notes_here o = and_then (notes_decoder o) (λ answer. pure (notes_answer answer))

-- an error of a `Mark`, as an error of the type
abbrev pub mark_error : MarkError → MessageError
mark_error (MarkReader error) = Reader error
mark_error MarkNoMark = InMark MarkNoMark

-- a result with these errors
abbrev pub mark_answer : Result Mark MarkError → Result Mark MessageError
mark_answer = error_of mark_error

-- the reads of a `Mark`, with the errors of the type
abbrev pub mark_here : Order → Decoder (Result Mark MessageError)
mark_here o = and_then (mark_decoder o) (λ answer. pure (mark_answer answer))

-- the number of the case of a `Body`
abbrev pub body_number : Body → ℕ
body_number (BodyAck it) = 1
body_number (BodyFirst it) = 2
body_number BodyStop = 3
body_number (BodyMark it) = 4

-- the reads of the case with the number n
abbrev pub body_read : Order → ℕ → Decoder (Result Body MessageError)
body_read o n = if n == 1 then and_then (ack_decoder o) (λ it. pure (Ok (BodyAck it))) else if n == 2 then and_then
    (notes_here o) (part_then (λ it. pure (Ok (BodyFirst it)))) else if n == 3 then pure (Ok (BodyStop)) else if n == 4
    then and_then (mark_here o) (part_then (λ it. pure (Ok (BodyMark it)))) else pure (Err NoBody)

-- the writes behind the number
abbrev pub body_writes : Order → Body → List Encoder
body_writes o (BodyAck it) = ack_writes o it
body_writes o (BodyFirst it) = notes_writes o it
body_writes o BodyStop = []
body_writes o (BodyMark it) = mark_writes o it

-- the number of their bits
abbrev pub body_size : Order → Body → ℕ
body_size o (BodyAck it) = ack_size o it
body_size o (BodyFirst it) = notes_size o it
body_size o BodyStop = 0
body_size o (BodyMark it) = mark_size o it

-- the case fits its bits
abbrev pub body_fits : Body → Type 0
body_fits (BodyAck it) = AckFits it
body_fits (BodyFirst it) = NotesFits it
body_fits BodyStop = ⊤
body_fits (BodyMark it) = MarkFits it

-- the number of each case fits its bits
pub body_small : (it : Body) → body_fits it → body_number it < 2 ^ 4
body_small (BodyAck it) fits = omega arith
body_small (BodyFirst it) fits = omega arith
body_small BodyStop fits = omega arith
body_small (BodyMark it) fits = omega arith

-- each case is read back behind its number, and its writes are accepted
pub body_goes : (o : Order) (it : Body) → body_fits it
    → CaseGoes (body_read o (body_number it)) (body_writes o it) (Ok it) (body_size High it)
body_goes o (BodyAck it) fits = plain_held-goes ack_format (λ v. Ok (BodyAck v)) o it fits
body_goes o (BodyFirst it) fits = held-goes (with_error notes_error notes_format) (λ v. BodyFirst v) o it fits
body_goes o BodyStop fits = alone-goes (Ok BodyStop)
body_goes o (BodyMark it) fits = held-goes (with_error mark_error mark_format) (λ v. BodyMark v) o it fits

-- the choice
abbrev pub body_choice : FormatChoice Body (Result Body MessageError) (λ it. Ok it)
body_choice = record {
  number = body_number;
  read = body_read;
  write = body_writes;
  size = body_size High;
  fits =
      body_fits;
  goes = body_goes;
}

-- the lines, in order
abbrev pub message_lines : FormatParts Message (Result Message MessageError) (λ s. Ok s)
message_lines = do
  version ← field (atom.unsigned 8 4 refl) (λ s. s.version)
  body_tag ← field (atom.unsigned 8 4 refl) (λ s. body_number s.body)
  body ← own_field (chosen body_choice body_tag) (λ s. s.body)
  checked ← field atom.bool (λ s. s.checked)
  skipped_4 ← field (atom.pad 7) (λ s. tt)
  own_done (record { version = version; body = body; checked = checked })

-- the reads, in order
abbrev pub message_decoder : Order → Decoder (Result Message MessageError)
message_decoder o = message_lines.read o

-- the writes, in order
abbrev pub message_writes : Order → Message → List Encoder
message_writes o value = message_lines.write o value

-- each field fits its bits
pub record Fits (value : Message) : Type 0 where
  pub version : value.version < 2 ^ 4
  pub body : body_fits value.body

-- the number of bits
abbrev pub message_size : Order → Message → ℕ
message_size o value = message_lines.size value

-- the format, with the facts that must fit by name
abbrev pub message_format : OwnFormat MessageError Message
message_format = named Fits (format message_lines (λ s. refl {a = s}))
    (λ s fits. fits.version & body_small s.body fits.body & fits.body & refl)

-- the bits of all fields, up to a whole byte
unfoldable pub message_bits : Message → List Bool
message_bits value = write_sequence (message_writes High value ++ align ∷ []) 0
