-- Acknowledgements and marks, each list after its size in bytes.
use Rattle.bitstream_messages.specs.declared.log.Log.{Log}
use Rattle.bitstream_messages.specs.declared.log.LogError.{LogError}
use Rattle.bitstream_messages.specs.declared.log.LogError.TheVariants.{Reader, OddAcks, OddMarks, InMark}
use Rattle.bitstream_messages.specs.declared.ack.Ack.{Ack}
use Rattle.bitstream_messages.specs.declared.mark.Mark.{Mark}
use Rattle.bitstream_messages.specs.declared.mark.MarkError.{MarkError}
use Rattle.bitstream_messages.specs.declared.mark.MarkError.TheVariants.{Reader as MarkReader, NoMark as MarkNoMark}
use Rattle.bitstream_format.specs.Within.{is_end}
use Rattle.bitstream_format.specs.Filled.{filled_decoder}
use Rattle.bitstream_messages.specs.Ack.{ack_decoder, ack_size, ack_format, Fits as AckFits}
use Rattle.bitstream_messages.specs.Mark.{mark_decoder, mark_size, mark_format, Fits as MarkFits}
use Rattle.std.proofs.Common.{refl, arith}
use Rattle.bitstream_format.specs.Format.{◌>>=◌, Own as OwnFormat, Parts as FormatParts, format, named, own_field, ◌&◌, own_done}
use Rattle.bitstream_format.specs.Lists.{with_error, error_of, own as as_own}
use Rattle.bitstream_format.specs.Measured.{of_items, size_of_part, filling}
use Rattle.std.specs.Prelude.{◌≡◌, ◌^◌, ◌<◌, ◌≤◌, ◌*◌, ◌/◌, ◌++◌, ◌∷◌, [], if◌then◌else◌, ℕ, Bool, List, Result, Ok}
use Rattle.std.specs.List.{All}
use Rattle.bitstream_io.specs.Callers.{Decoder, Encoder, pure, Error, Order, High, and_then, align, write_sequence, plain_reads}
use Rattle.bitstream_io.specs.Loop.{parts_size}

-- Made by `./format` from formats/log.fields: edit that file and make this one anew.

-- an error of the reader is one of the type's
abbrev pub becomes_log : Error → LogError → Type 0
becomes_log error own = own ≡ Reader error

-- an error inside the bytes of `acks`: their end is `OddAcks`
abbrev pub acks_ended : LogError → LogError
acks_ended (Reader error) = if is_end error then OddAcks else Reader error
acks_ended OddAcks = OddAcks
acks_ended OddMarks = OddMarks
acks_ended (InMark error) = InMark error

-- the reads of `acks`, of n bytes, over these bytes alone
abbrev pub acks_sized : Order → ℕ → Decoder (Result (List Ack) LogError)
acks_sized o n = filled_decoder (λ o. plain_reads (ack_decoder o)) OddAcks (λ error. Reader error) acks_ended o n

-- each item has a byte or more
pub acks_wide : (it : Ack) → 8 ≤ ack_size High it
acks_wide it = omega arith

-- an error of a `Mark`, as an error of the type
abbrev pub mark_error : MarkError → LogError
mark_error (MarkReader error) = Reader error
mark_error MarkNoMark = InMark MarkNoMark

-- a result with these errors
abbrev pub mark_answer : Result Mark MarkError → Result Mark LogError
mark_answer = error_of mark_error

-- the reads of a `Mark`, with the errors of the type
abbrev pub mark_here : Order → Decoder (Result Mark LogError)
mark_here o = and_then (mark_decoder o) (λ answer. pure (mark_answer answer))

-- an error inside the bytes of `marks`: their end is `OddMarks`
abbrev pub marks_ended : LogError → LogError
marks_ended (Reader error) = if is_end error then OddMarks else Reader error
marks_ended OddAcks = OddAcks
marks_ended OddMarks = OddMarks
marks_ended (InMark error) = InMark error

-- the reads of `marks`, of n bytes, over these bytes alone
abbrev pub marks_sized : Order → ℕ → Decoder (Result (List Mark) LogError)
marks_sized o n = filled_decoder (λ o. mark_here o) OddMarks (λ error. Reader error) marks_ended o n

-- each item has a byte or more
pub marks_wide : (it : Mark) → 8 ≤ mark_size High it
marks_wide it = omega arith

-- the lines, in order
abbrev pub log_lines : FormatParts Log (Result Log LogError) (λ s. Ok s)
log_lines = do
  acks_bytes ← size_of_part 8 refl refl (of_items ack_format) (λ s. s.acks)
  marks_bytes ← size_of_part 8 refl refl (of_items mark_format) (λ s. s.marks)
  acks ← own_field (filling (as_own ack_format) OddAcks (λ error. Reader error) acks_ended acks_bytes acks_wide) (λ s.
      s.acks)
  marks ← own_field (filling (with_error mark_error mark_format) OddMarks (λ error. Reader error) marks_ended
      marks_bytes marks_wide) (λ s. s.marks)
  own_done (record { acks = acks; marks = marks })

-- the reads, in order
abbrev pub log_decoder : Order → Decoder (Result Log LogError)
log_decoder o = log_lines.read o

-- the writes, in order
abbrev pub log_writes : Order → Log → List Encoder
log_writes o value = log_lines.write o value

-- each field fits its bits
pub record Fits (value : Log) : Type 0 where
  pub acks_bytes : parts_size (ack_size High) value.acks / 8 < 2 ^ 8
  pub marks_bytes : parts_size (mark_size High) value.marks / 8 < 2 ^ 8
  pub acks : All AckFits value.acks
  pub acks_whole : (o : Order) → parts_size (ack_size o) value.acks ≡ 8 * (parts_size (ack_size High) value.acks / 8)
  pub marks : All MarkFits value.marks
  pub marks_whole : (o : Order) → parts_size (mark_size o) value.marks ≡ 8 * (parts_size (mark_size High) value.marks /
      8)

-- the number of bits
abbrev pub log_size : Order → Log → ℕ
log_size o value = log_lines.size value

-- the format, with the facts that must fit by name
abbrev pub log_format : OwnFormat LogError Log
log_format = named Fits (format log_lines (λ s. refl {a = s}))
    (λ s fits. fits.acks_bytes & fits.acks & fits.marks_bytes & fits.marks & fits.acks & fits.acks_whole High &
    fits.marks & fits.marks_whole High)

-- the bits of all fields, up to a whole byte
unfoldable pub log_bits : Log → List Bool
log_bits value = write_sequence (log_writes High value ++ align ∷ []) 0
