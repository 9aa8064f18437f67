-- Notes and an acknowledgement, each after its size in bytes.
use Rattle.bitstream_messages.specs.declared.packet.Packet.{Packet}
use Rattle.bitstream_messages.specs.declared.packet.PacketError.{PacketError}
use Rattle.bitstream_messages.specs.declared.packet.PacketError.TheVariants.{Reader, OtherNotes, OtherAck}
use Rattle.bitstream_messages.specs.declared.notes.Notes.{Notes}
use Rattle.bitstream_messages.specs.declared.ack.Ack.{Ack}
use Rattle.bitstream_format.specs.Within.{is_end, sized_decoder}
use Rattle.bitstream_messages.specs.Notes.{notes_decoder, notes_size, notes_format, Fits as NotesFits}
use Rattle.bitstream_messages.specs.Ack.{ack_decoder, ack_size, ack_format, Fits as AckFits}
use Rattle.std.proofs.Common.{refl}
use Rattle.bitstream_format.specs.Format.{◌>>=◌, Own as OwnFormat, Parts as FormatParts, format, named, field, own_field, ◌&◌, own_done}
use Rattle.bitstream_format.specs.Lists.{with_error, error_of, own as as_own}
use Rattle.bitstream_format.specs.Measured.{of_format, size_of_part, over_bytes}
use Rattle.std.specs.Prelude.{◌≡◌, ◌^◌, ◌<◌, ◌*◌, ◌/◌, ◌++◌, ◌∷◌, [], if◌then◌else◌, ℕ, Bool, List, Result, Ok}
use Rattle.bitstream_io.specs.Callers.{Decoder, Encoder, pure, Error, Order, High, and_then, align, write_sequence, plain_reads}
use Rattle.bitstream_format.specs.Atoms as atom

-- Made by `./format` from formats/packet.fields: edit that file and make this one anew.

-- an error of the reader is one of the type's
abbrev pub becomes_packet : Error → PacketError → Type 0
becomes_packet error own = own ≡ Reader error

-- an error of a `Notes`, as an error of the type
abbrev pub notes_error : Error → PacketError
notes_error error = Reader error

-- a result with these errors
abbrev pub notes_answer : Result Notes Error → Result Notes PacketError
notes_answer = error_of notes_error

-- the reads of a `Notes`, with the errors of the type
abbrev pub notes_here : Order → Decoder (Result Notes PacketError)
notes_here o = and_then (notes_decoder o) (λ answer. pure (notes_answer answer))

-- an error inside the bytes of `notes`: their end is `OtherNotes`
abbrev pub notes_ended : PacketError → PacketError
notes_ended (Reader error) = if is_end error then OtherNotes else Reader error
notes_ended OtherNotes = OtherNotes
notes_ended OtherAck = OtherAck

-- the reads of `notes`, of n bytes, over these bytes alone
abbrev pub notes_sized : Order → ℕ → Decoder (Result Notes PacketError)
notes_sized o n = sized_decoder (λ o. notes_here o) OtherNotes (λ error. Reader error) notes_ended o n

-- an error inside the bytes of `ack`: their end is `OtherAck`
abbrev pub ack_ended : PacketError → PacketError
ack_ended (Reader error) = if is_end error then OtherAck else Reader error
ack_ended OtherNotes = OtherNotes
ack_ended OtherAck = OtherAck

-- the reads of `ack`, of n bytes, over these bytes alone
abbrev pub ack_sized : Order → ℕ → Decoder (Result Ack PacketError)
ack_sized o n = sized_decoder (λ o. plain_reads (ack_decoder o)) OtherAck (λ error. Reader error) ack_ended o n

-- the lines, in order
abbrev pub packet_lines : FormatParts Packet (Result Packet PacketError) (λ s. Ok s)
packet_lines = do
  notes_bytes ← size_of_part 16 refl refl (of_format notes_format) (λ s. s.notes)
  notes ← own_field (over_bytes (with_error notes_error notes_format) OtherNotes (λ error. Reader error) notes_ended
      notes_bytes) (λ s. s.notes)
  ack_bytes ← size_of_part 8 refl refl (of_format ack_format) (λ s. s.ack)
  ack ← own_field (over_bytes (as_own ack_format) OtherAck (λ error. Reader error) ack_ended ack_bytes) (λ s. s.ack)
  end ← field (atom.unsigned 8 8 refl) (λ s. s.end)
  own_done (record { notes = notes; ack = ack; end = end })

-- the reads, in order
abbrev pub packet_decoder : Order → Decoder (Result Packet PacketError)
packet_decoder o = packet_lines.read o

-- the writes, in order
abbrev pub packet_writes : Order → Packet → List Encoder
packet_writes o value = packet_lines.write o value

-- each field fits its bits
pub record Fits (value : Packet) : Type 0 where
  pub notes_bytes : notes_size High value.notes / 8 < 2 ^ 16
  pub notes : NotesFits value.notes
  pub notes_whole : (o : Order) → notes_size o value.notes ≡ 8 * (notes_size High value.notes / 8)
  pub ack_bytes : ack_size High value.ack / 8 < 2 ^ 8
  pub ack : AckFits value.ack
  pub ack_whole : (o : Order) → ack_size o value.ack ≡ 8 * (ack_size High value.ack / 8)
  pub end : value.end < 2 ^ 8

-- the number of bits
abbrev pub packet_size : Order → Packet → ℕ
packet_size o value = packet_lines.size value

-- the format, with the facts that must fit by name
abbrev pub packet_format : OwnFormat PacketError Packet
packet_format = named Fits (format packet_lines (λ s. refl {a = s}))
    (λ s fits. fits.notes_bytes & fits.notes & fits.notes & fits.notes_whole High & fits.ack_bytes & fits.ack & fits.ack
    & fits.ack_whole High & fits.end)

-- the bits of all fields, up to a whole byte
unfoldable pub packet_bits : Packet → List Bool
packet_bits value = write_sequence (packet_writes High value ++ align ∷ []) 0
