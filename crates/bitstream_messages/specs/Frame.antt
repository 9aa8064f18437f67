-- A message after its kind and its size, and another message after its size.
use Rattle.bitstream_messages.specs.declared.frame.Frame.{Frame}
use Rattle.bitstream_messages.specs.declared.frame.FrameError.{FrameError}
use Rattle.bitstream_messages.specs.declared.frame.FrameError.TheVariants.{Reader, NoContent, OtherBody, OtherMessage, InMessage}
use Rattle.bitstream_messages.specs.declared.frame.Content.{Content}
use Rattle.bitstream_messages.specs.declared.frame.Content.TheVariants.{Ack as ContentAck, Notes as ContentNotes, Empty as ContentEmpty}
use Rattle.bitstream_messages.specs.declared.notes.Notes.{Notes}
use Rattle.bitstream_messages.specs.declared.message.Message.{Message}
use Rattle.bitstream_messages.specs.declared.message.MessageError.{MessageError}
use Rattle.bitstream_messages.specs.declared.message.MessageError.TheVariants.{Reader as MessageReader, NoBody as MessageNoBody, InMark as MessageInMark}
use Rattle.bitstream_format.specs.Within.{is_end, sized_decoder}
use Rattle.bitstream_messages.specs.Ack.{ack_decoder, ack_writes, ack_size, ack_format, Fits as AckFits}
use Rattle.bitstream_messages.specs.Notes.{notes_decoder, notes_writes, notes_size, notes_format, Fits as NotesFits}
use Rattle.bitstream_messages.specs.Message.{message_decoder, message_size, message_format, Fits as MessageFits}
use Rattle.std.proofs.Common.{refl, arith}
use Rattle.bitstream_format.specs.Format.{◌>>=◌, Own as OwnFormat, Parts as FormatParts, format, named, field, own_field, ◌&◌, own_done}
use Rattle.bitstream_format.specs.Lists.{with_error, error_of}
use Rattle.bitstream_format.specs.Chosen.{Choice as FormatChoice, chosen, Goes as CaseGoes, held-goes, plain_held-goes, alone-goes}
use Rattle.bitstream_format.specs.Measured.{of_format, of_choice, size_of_part, over_bytes}
use Rattle.std.specs.Prelude.{◌≡◌, ◌^◌, ◌<◌, ◌*◌, ◌/◌, ◌++◌, ◌∷◌, [], ◌==◌, if◌then◌else◌, ℕ, Bool, List, Result, Ok, Err, ⊤}
use Rattle.bitstream_io.specs.Callers.{Decoder, Encoder, pure, Error, Order, High, number, and_then, align, write_sequence, part_then}
use Rattle.bitstream_format.specs.Atoms as atom

-- Made by `./format` from formats/frame.fields: edit that file and make this one anew.

-- an error of the reader is one of the type's
abbrev pub becomes_frame : Error → FrameError → Type 0
becomes_frame error own = own ≡ Reader error

-- an error of a `Notes`, as an error of the type
abbrev pub notes_error : Error → FrameError
notes_error error = Reader error

-- a result with these errors
abbrev pub notes_answer : Result Notes Error → Result Notes FrameError
notes_answer = error_of notes_error

-- the reads of a `Notes`, with the errors of the type
abbrev pub notes_here : Order → Decoder (Result Notes FrameError)
notes_here o = and_then (notes_decoder o) (λ answer. pure (notes_answer answer))

-- the number of the case of a `Content`
abbrev pub content_number : Content → ℕ
content_number (ContentAck it) = 1
content_number (ContentNotes it) = 2
content_number ContentEmpty = 3

-- the reads of the case with the number n
abbrev pub content_read : Order → ℕ → Decoder (Result Content FrameError)
content_read o n = if n == 1 then and_then (ack_decoder o) (λ it. pure (Ok (ContentAck it))) else if n == 2 then
    and_then (notes_here o) (part_then (λ it. pure (Ok (ContentNotes it)))) else if n == 3 then pure (Ok (ContentEmpty))
    else pure (Err NoContent)

-- the writes behind the number
abbrev pub content_writes : Order → Content → List Encoder
content_writes o (ContentAck it) = ack_writes o it
content_writes o (ContentNotes it) = notes_writes o it
content_writes o ContentEmpty = []

-- the number of their bits
abbrev pub content_size : Order → Content → ℕ
content_size o (ContentAck it) = ack_size o it
content_size o (ContentNotes it) = notes_size o it
content_size o ContentEmpty = 0

-- the case fits its bits
abbrev pub content_fits : Content → Type 0
content_fits (ContentAck it) = AckFits it
content_fits (ContentNotes it) = NotesFits it
content_fits ContentEmpty = ⊤

-- an error inside the bytes of `body`: their end is `OtherBody`
abbrev pub body_ended : FrameError → FrameError
body_ended (Reader error) = if is_end error then OtherBody else Reader error
body_ended NoContent = NoContent
body_ended OtherBody = OtherBody
body_ended OtherMessage = OtherMessage
body_ended (InMessage error) = InMessage error

-- the reads of `body`, of n bytes, over these bytes alone
abbrev pub body_sized : Order → ℕ → ℕ → Decoder (Result Content FrameError)
body_sized o number n = sized_decoder (λ o. content_read o number) OtherBody (λ error. Reader error) body_ended o n

-- the number of each case fits its bits
pub content_small : (it : Content) → content_fits it → content_number it < 2 ^ 8
content_small (ContentAck it) fits = omega arith
content_small (ContentNotes it) fits = omega arith
content_small ContentEmpty fits = omega arith

-- each case is read back behind its number, and its writes are accepted
pub content_goes : (o : Order) (it : Content) → content_fits it
    → CaseGoes (content_read o (content_number it)) (content_writes o it) (Ok it) (content_size High it)
content_goes o (ContentAck it) fits = plain_held-goes ack_format (λ v. Ok (ContentAck v)) o it fits
content_goes o (ContentNotes it) fits = held-goes (with_error notes_error notes_format) (λ v. ContentNotes v) o it fits
content_goes o ContentEmpty fits = alone-goes (Ok ContentEmpty)

-- the choice
abbrev pub content_choice : FormatChoice Content (Result Content FrameError) (λ it. Ok it)
content_choice = record {
  number = content_number;
  read = content_read;
  write = content_writes;
  size = content_size
      High;
  fits = content_fits;
  goes = content_goes;
}

-- an error of a `Message`, as an error of the type
abbrev pub message_error : MessageError → FrameError
message_error (MessageReader error) = Reader error
message_error MessageNoBody = InMessage MessageNoBody
message_error (MessageInMark error) = InMessage (MessageInMark error)

-- a result with these errors
abbrev pub message_answer : Result Message MessageError → Result Message FrameError
message_answer = error_of message_error

-- the reads of a `Message`, with the errors of the type
abbrev pub message_here : Order → Decoder (Result Message FrameError)
message_here o = and_then (message_decoder o) (λ answer. pure (message_answer answer))

-- an error inside the bytes of `message`: their end is `OtherMessage`
abbrev pub message_ended : FrameError → FrameError
message_ended (Reader error) = if is_end error then OtherMessage else Reader error
message_ended NoContent = NoContent
message_ended OtherBody = OtherBody
message_ended OtherMessage = OtherMessage
message_ended (InMessage error) = InMessage error

-- the reads of `message`, of n bytes, over these bytes alone
abbrev pub message_sized : Order → ℕ → Decoder (Result Message FrameError)
message_sized o n = sized_decoder (λ o. message_here o) OtherMessage (λ error. Reader error) message_ended o n

-- the lines, in order
abbrev pub frame_lines : FormatParts Frame (Result Frame FrameError) (λ s. Ok s)
frame_lines = do
  body_tag ← field (atom.unsigned 8 8 refl) (λ s. content_number s.body)
  body_bytes ← size_of_part 8 refl refl (of_choice content_choice) (λ s. s.body)
  message_bytes ← size_of_part 8 refl refl (of_format message_format) (λ s. s.message)
  body ← own_field (over_bytes (chosen content_choice body_tag) OtherBody (λ error. Reader error) body_ended body_bytes)
      (λ s. s.body)
  message ← own_field (over_bytes (with_error message_error message_format) OtherMessage (λ error. Reader error)
      message_ended message_bytes) (λ s. s.message)
  own_done (record { body = body; message = message })

-- the reads, in order
abbrev pub frame_decoder : Order → Decoder (Result Frame FrameError)
frame_decoder o = frame_lines.read o

-- the writes, in order
abbrev pub frame_writes : Order → Frame → List Encoder
frame_writes o value = frame_lines.write o value

-- each field fits its bits
pub record Fits (value : Frame) : Type 0 where
  pub body_bytes : content_size High value.body / 8 < 2 ^ 8
  pub message_bytes : message_size High value.message / 8 < 2 ^ 8
  pub body : content_fits value.body
  pub body_whole : (o : Order) → content_size o value.body ≡ 8 * (content_size High value.body / 8)
  pub message : MessageFits value.message
  pub message_whole : (o : Order) → message_size o value.message ≡ 8 * (message_size High value.message / 8)

-- the number of bits
abbrev pub frame_size : Order → Frame → ℕ
frame_size o value = frame_lines.size value

-- the format, with the facts that must fit by name
abbrev pub frame_format : OwnFormat FrameError Frame
frame_format = named Fits (format frame_lines (λ s. refl {a = s}))
    (λ s fits. content_small s.body fits.body & fits.body_bytes & fits.body & fits.message_bytes & fits.message &
    (fits.body, refl) & fits.body_whole High & fits.message & fits.message_whole High)

-- the bits of all fields, up to a whole byte
unfoldable pub frame_bits : Frame → List Bool
frame_bits value = write_sequence (frame_writes High value ++ align ∷ []) 0
