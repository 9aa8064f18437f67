-- A signal of a known or another kind.
use Rattle.bitstream_messages.specs.declared.signal.Signal.{Signal}
use Rattle.bitstream_messages.specs.declared.signal.Reply.{Reply}
use Rattle.bitstream_messages.specs.declared.signal.Reply.TheVariants.{Ack as ReplyAck, Stop as ReplyStop, Other as ReplyOther}
use Rattle.bitstream_messages.specs.declared.signal.Tail.{Tail}
use Rattle.bitstream_messages.specs.declared.signal.Tail.TheVariants.{Nothing as TailNothing, Late as TailLate}
use Rattle.bitstream_messages.specs.Ack.{ack_decoder, ack_writes, ack_size, ack_format, Fits as AckFits}
use Rattle.std.proofs.Common.{refl, arith}
use Rattle.std.proofs.lemmas.Bool.{ne_eqb}
use Rattle.bitstream_format.specs.Format.{◌>>=◌, Plain as PlainFormat, Parts as FormatParts, format, named, field, ◌&◌, done}
use Rattle.bitstream_format.specs.Chosen.{Choice as FormatChoice, chosen, Goes as CaseGoes, plain_held-goes, alone-goes}
use Rattle.std.specs.Prelude.{◌≢◌, ◌^◌, ◌<◌, ◌++◌, ◌∷◌, [], ◌==◌, if◌then◌else◌, ℕ, Bool, List, ⊤}
use Rattle.bitstream_io.specs.Callers.{Decoder, Encoder, pure, Order, High, and_then, align, write_sequence}
use Rattle.bitstream_format.specs.Atoms as atom

-- Made by `./format` from formats/signal.fields: edit that file and make this one anew.

-- the number of the case of a `Reply`
abbrev pub reply_number : Reply → ℕ
reply_number (ReplyAck it) = 1
reply_number ReplyStop = 7
reply_number (ReplyOther n) = n

-- the reads of the case with the number n
abbrev pub reply_read : Order → ℕ → Decoder Reply
reply_read o n = if n == 1 then and_then (ack_decoder o) (λ it. pure (ReplyAck it)) else if n == 7 then pure (ReplyStop)
    else pure (ReplyOther n)

-- the writes behind the number
abbrev pub reply_writes : Order → Reply → List Encoder
reply_writes o (ReplyAck it) = ack_writes o it
reply_writes o ReplyStop = []
reply_writes o (ReplyOther n) = []

-- the number of their bits
abbrev pub reply_size : Order → Reply → ℕ
reply_size o (ReplyAck it) = ack_size o it
reply_size o ReplyStop = 0
reply_size o (ReplyOther n) = 0

-- the case fits its bits
abbrev pub reply_fits : Reply → Type 0
reply_fits (ReplyAck it) = AckFits it
reply_fits ReplyStop = ⊤
reply_fits (ReplyOther n) = (n < 2 ^ 8) × (n ≢ 1) × (n ≢ 7)

-- the number of each case fits its bits
pub reply_small : (it : Reply) → reply_fits it → reply_number it < 2 ^ 8
reply_small (ReplyAck it) fits = omega arith
reply_small ReplyStop fits = omega arith
reply_small (ReplyOther n) fits = fits.0

-- each case is read back behind its number, and its writes are accepted
pub reply_goes : (o : Order) (it : Reply) → reply_fits it
    → CaseGoes (reply_read o (reply_number it)) (reply_writes o it) it (reply_size High it)
reply_goes o (ReplyAck it) fits = plain_held-goes ack_format (λ v. ReplyAck v) o it fits
reply_goes o ReplyStop fits = alone-goes ReplyStop
reply_goes o (ReplyOther n) fits = rw (ne_eqb n 1 fits.1, ne_eqb n 7 fits.2) (alone-goes (ReplyOther n))

-- the choice
abbrev pub reply_choice : FormatChoice Reply Reply (λ it. it)
reply_choice = record {
  number = reply_number;
  read = reply_read;
  write = reply_writes;
  size = reply_size High;
  fits =
      reply_fits;
  goes = reply_goes;
}

-- the number of the case of a `Tail`
abbrev pub tail_number : Tail → ℕ
tail_number TailNothing = 0
tail_number (TailLate it) = 1

-- the reads of the case with the number n
abbrev pub tail_read : Order → ℕ → Decoder Tail
tail_read o n = if n == 0 then pure (TailNothing) else and_then (ack_decoder o) (λ it. pure (TailLate it))

-- the writes behind the number
abbrev pub tail_writes : Order → Tail → List Encoder
tail_writes o TailNothing = []
tail_writes o (TailLate it) = ack_writes o it

-- the number of their bits
abbrev pub tail_size : Order → Tail → ℕ
tail_size o TailNothing = 0
tail_size o (TailLate it) = ack_size o it

-- the case fits its bits
abbrev pub tail_fits : Tail → Type 0
tail_fits TailNothing = ⊤
tail_fits (TailLate it) = AckFits it

-- the number of each case fits its bits
pub tail_small : (it : Tail) → tail_fits it → tail_number it < 2 ^ 1
tail_small TailNothing fits = omega arith
tail_small (TailLate it) fits = omega arith

-- each case is read back behind its number, and its writes are accepted
pub tail_goes : (o : Order) (it : Tail) → tail_fits it
    → CaseGoes (tail_read o (tail_number it)) (tail_writes o it) it (tail_size High it)
tail_goes o TailNothing fits = alone-goes TailNothing
tail_goes o (TailLate it) fits = plain_held-goes ack_format (λ v. TailLate v) o it fits

-- the choice
abbrev pub tail_choice : FormatChoice Tail Tail (λ it. it)
tail_choice = record {
  number = tail_number;
  read = tail_read;
  write = tail_writes;
  size = tail_size High;
  fits =
      tail_fits;
  goes = tail_goes;
}

-- the lines, in order
abbrev pub signal_lines : FormatParts Signal Signal (λ s. s)
signal_lines = do
  body_tag ← field (atom.unsigned 8 8 refl) (λ s. reply_number s.body)
  tail_tag ← field (atom.unsigned 8 1 refl) (λ s. tail_number s.tail)
  level ← field (atom.unsigned 8 7 refl) (λ s. s.level)
  body ← field (chosen reply_choice body_tag) (λ s. s.body)
  tail ← field (chosen tail_choice tail_tag) (λ s. s.tail)
  done (record { level = level; body = body; tail = tail })

-- the reads, in order
abbrev pub signal_decoder : Order → Decoder Signal
signal_decoder o = signal_lines.read o

-- the writes, in order
abbrev pub signal_writes : Order → Signal → List Encoder
signal_writes o value = signal_lines.write o value

-- each field fits its bits
pub record Fits (value : Signal) : Type 0 where
  pub level : value.level < 2 ^ 7
  pub body : reply_fits value.body
  pub tail : tail_fits value.tail

-- the number of bits
abbrev pub signal_size : Order → Signal → ℕ
signal_size o value = signal_lines.size value

-- the format, with the facts that must fit by name
abbrev pub signal_format : PlainFormat Signal
signal_format = named Fits (format signal_lines (λ s. refl {a = s}))
    (λ s fits. reply_small s.body fits.body & tail_small s.tail fits.tail & fits.level & fits.body & refl & fits.tail &
    refl)

-- the bits of all fields, up to a whole byte
unfoldable pub signal_bits : Signal → List Bool
signal_bits value = write_sequence (signal_writes High value ++ align ∷ []) 0
