-- An event, whose kind is a field.
use Rattle.bitstream_messages.specs.declared.event.Event.{Event}
use Rattle.bitstream_messages.specs.declared.event.EventError.{EventError}
use Rattle.bitstream_messages.specs.declared.event.EventError.TheVariants.{Reader, NoKind, NoWhat, InMark}
use Rattle.bitstream_messages.specs.declared.event.Kind.{Kind}
use Rattle.bitstream_messages.specs.declared.event.Kind.TheVariants.{Marked, Acked, Plain}
use Rattle.bitstream_messages.specs.declared.event.What.{What}
use Rattle.bitstream_messages.specs.declared.event.What.TheVariants.{Marked as WhatMarked, Acked as WhatAcked, Plain as WhatPlain}
use Rattle.bitstream_messages.specs.declared.mark.Mark.{Mark}
use Rattle.bitstream_messages.specs.declared.mark.MarkError.{MarkError}
use Rattle.bitstream_messages.specs.declared.mark.MarkError.TheVariants.{Reader as MarkReader, NoMark as MarkNoMark}
use Rattle.bitstream_messages.specs.Mark.{mark_decoder, mark_writes, mark_size, mark_format, Fits as MarkFits}
use Rattle.bitstream_messages.specs.Ack.{ack_decoder, ack_writes, ack_size, ack_format, Fits as AckFits}
use Rattle.std.proofs.Common.{refl, true, arith}
use Rattle.bitstream_format.specs.Format.{◌>>=◌, Own as OwnFormat, Parts as FormatParts, format, named, own_field, ◌&◌, own_done}
use Rattle.bitstream_format.specs.Lists.{with_error, error_of}
use Rattle.bitstream_format.specs.Cases.{cases}
use Rattle.bitstream_format.specs.Chosen.{Choice as FormatChoice, chosen, Goes as CaseGoes, held-goes, plain_held-goes, alone-goes}
use Rattle.std.specs.Prelude.{◌≡◌, ◌^◌, ◌<◌, ◌++◌, ◌∷◌, [], ◌==◌, if◌then◌else◌, ℕ, Bool, List, Result, Ok, Err, ⊤, nat_lt}
use Rattle.bitstream_io.specs.Callers.{Decoder, Encoder, pure, Error, Order, High, and_then, unsigned_decoder, align, write_sequence, part_then}

-- Made by `./format` from formats/event.fields: edit that file and make this one anew.

-- an error of the reader is one of the type's
abbrev pub becomes_event : Error → EventError → Type 0
becomes_event error own = own ≡ Reader error

-- the case of a number
abbrev pub kind_of : ℕ → (Result Kind EventError)
kind_of n = if n == 0 then Ok Marked else if n == 1 then Ok Acked else if n == 2 then Ok Plain else Err NoKind

-- the number of a case
abbrev pub kind_number : Kind → ℕ
kind_number Marked = 0
kind_number Acked = 1
kind_number Plain = 2

-- the read of a case
abbrev pub kind_read : Order → Decoder (Result Kind EventError)
kind_read o = and_then (unsigned_decoder o 8 8) (λ v. pure (kind_of v))

-- the number of each case fits its bits, and decodes to that case
pub kind_small : (it : Kind) → nat_lt (kind_number it) (2 ^ 8) ≡ true
kind_small Marked = refl
kind_small Acked = refl
kind_small Plain = refl

pub kind_again : (it : Kind) → kind_of (kind_number it) ≡ Ok it
kind_again Marked = refl
kind_again Acked = refl
kind_again Plain = refl

-- the cases, by their numbers
abbrev pub kind_cases : OwnFormat EventError Kind
kind_cases = cases 8 8 refl kind_of kind_number kind_small kind_again

-- an error of a `Mark`, as an error of the type
abbrev pub mark_error : MarkError → EventError
mark_error (MarkReader error) = Reader error
mark_error MarkNoMark = InMark MarkNoMark

-- a result with these errors
abbrev pub mark_answer : Result Mark MarkError → Result Mark EventError
mark_answer = error_of mark_error

-- the reads of a `Mark`, with the errors of the type
abbrev pub mark_here : Order → Decoder (Result Mark EventError)
mark_here o = and_then (mark_decoder o) (λ answer. pure (mark_answer answer))

-- the number of the case of a `What`
abbrev pub what_number : What → ℕ
what_number (WhatMarked it) = 0
what_number (WhatAcked it) = 1
what_number WhatPlain = 2

-- the reads of the case with the number n
abbrev pub what_read : Order → ℕ → Decoder (Result What EventError)
what_read o n = if n == 0 then and_then (mark_here o) (part_then (λ it. pure (Ok (WhatMarked it)))) else if n == 1 then
    and_then (ack_decoder o) (λ it. pure (Ok (WhatAcked it))) else if n == 2 then pure (Ok (WhatPlain)) else pure (Err
    NoWhat)

-- the writes behind the number
abbrev pub what_writes : Order → What → List Encoder
what_writes o (WhatMarked it) = mark_writes o it
what_writes o (WhatAcked it) = ack_writes o it
what_writes o WhatPlain = []

-- the number of their bits
abbrev pub what_size : Order → What → ℕ
what_size o (WhatMarked it) = mark_size o it
what_size o (WhatAcked it) = ack_size o it
what_size o WhatPlain = 0

-- the case fits its bits
abbrev pub what_fits : What → Type 0
what_fits (WhatMarked it) = MarkFits it
what_fits (WhatAcked it) = AckFits it
what_fits WhatPlain = ⊤

-- the number of each case fits its bits
pub what_small : (it : What) → what_fits it → what_number it < 2 ^ 8
what_small (WhatMarked it) fits = omega arith
what_small (WhatAcked it) fits = omega arith
what_small WhatPlain fits = omega arith

-- each case is read back behind its number, and its writes are accepted
pub what_goes : (o : Order) (it : What) → what_fits it
    → CaseGoes (what_read o (what_number it)) (what_writes o it) (Ok it) (what_size High it)
what_goes o (WhatMarked it) fits = held-goes (with_error mark_error mark_format) (λ v. WhatMarked v) o it fits
what_goes o (WhatAcked it) fits = plain_held-goes ack_format (λ v. Ok (WhatAcked v)) o it fits
what_goes o WhatPlain fits = alone-goes (Ok WhatPlain)

-- the choice
abbrev pub what_choice : FormatChoice What (Result What EventError) (λ it. Ok it)
what_choice = record {
  number = what_number;
  read = what_read;
  write = what_writes;
  size = what_size High;
  fits =
      what_fits;
  goes = what_goes;
}

-- the lines, in order
abbrev pub event_lines : FormatParts Event (Result Event EventError) (λ s. Ok s)
event_lines = do
  kind ← own_field kind_cases (λ s. s.kind)
  what ← own_field (chosen what_choice (kind_number kind)) (λ s. s.what)
  own_done (record { kind = kind; what = what })

-- the reads, in order
abbrev pub event_decoder : Order → Decoder (Result Event EventError)
event_decoder o = event_lines.read o

-- the writes, in order
abbrev pub event_writes : Order → Event → List Encoder
event_writes o value = event_lines.write o value

-- each field fits its bits
pub record Fits (value : Event) : Type 0 where
  pub what : what_fits value.what
  pub what_tag : what_number value.what ≡ (kind_number value.kind)

-- the number of bits
abbrev pub event_size : Order → Event → ℕ
event_size o value = event_lines.size value

-- the format, with the facts that must fit by name
abbrev pub event_format : OwnFormat EventError Event
event_format = named Fits (format event_lines (λ s. refl {a = s}))
    (λ s fits. fits.what & fits.what_tag)

-- the bits of all fields, up to a whole byte
unfoldable pub event_bits : Event → List Bool
event_bits value = write_sequence (event_writes High value ++ align ∷ []) 0
