-- The header of an NTP packet (RFC 5905, section 7.3), without extensions and authentication.
use Rattle.protocols.specs.declared.ntp_packet.NtpPacket.{NtpPacket}
use Rattle.protocols.specs.declared.ntp_packet.Leap.{Leap}
use Rattle.protocols.specs.declared.ntp_packet.Leap.TheVariants.{NoWarning, LongMinute, ShortMinute, Unsynchronized}
use Rattle.protocols.specs.declared.ntp_packet.Mode.{Mode}
use Rattle.protocols.specs.declared.ntp_packet.Mode.TheVariants.{Reserved, Active, Passive, Client, Server, Broadcast, Control, Private}
use Rattle.protocols.specs.NtpTimestamp.{ntp_timestamp_format, Fits as NtpTimestampFits}
use Rattle.std.proofs.Common.{refl, true}
use Rattle.bitstream_format.specs.Format.{◌>>=◌, Plain as PlainFormat, Parts as FormatParts, format, named, field, ◌&◌, done}
use Rattle.bitstream_format.specs.Cases.{cases}
use Rattle.std.specs.Prelude.{◌≡◌, ◌^◌, ◌<◌, ◌++◌, ◌∷◌, [], ◌==◌, if◌then◌else◌, ℕ, Bool, List, length, take, drop, nat_lt}
use Rattle.std.specs.List.{All}
use Rattle.bitstream_io.specs.Callers.{Decoder, Encoder, pure, Order, High, number, and_then, signed_number, FitsSignedBits, unsigned_decoder, bytes_of, align, write_sequence}
use Rattle.bitstream_format.specs.Atoms as atom

-- Made by `./format` from formats/ntp_packet.fields: edit that file and make this one anew.

-- n bits after the first k
abbrev pub bits_at : ℕ → ℕ → List Bool → List Bool
bits_at k n bits = take n (drop k bits)

-- the case of a number
abbrev pub leap_of : ℕ → Leap
leap_of n = if n == 0 then NoWarning else if n == 1 then LongMinute else if n == 2 then ShortMinute else Unsynchronized

-- the number of a case
abbrev pub leap_number : Leap → ℕ
leap_number NoWarning = 0
leap_number LongMinute = 1
leap_number ShortMinute = 2
leap_number Unsynchronized = 3

-- the read of a case
abbrev pub leap_read : Order → Decoder Leap
leap_read o = and_then (unsigned_decoder o 8 2) (λ v. pure (leap_of v))

-- the number of each case fits its bits, and decodes to that case
pub leap_small : (it : Leap) → nat_lt (leap_number it) (2 ^ 2) ≡ true
leap_small NoWarning = refl
leap_small LongMinute = refl
leap_small ShortMinute = refl
leap_small Unsynchronized = refl

pub leap_again : (it : Leap) → leap_of (leap_number it) ≡ it
leap_again NoWarning = refl
leap_again LongMinute = refl
leap_again ShortMinute = refl
leap_again Unsynchronized = refl

-- the cases, by their numbers
abbrev pub leap_cases : PlainFormat Leap
leap_cases = cases 8 2 refl leap_of leap_number leap_small leap_again

-- the case of a number
abbrev pub mode_of : ℕ → Mode
mode_of n = if n == 0 then Reserved else if n == 1 then Active else if n == 2 then Passive else if n == 3 then Client
    else if n == 4 then Server else if n == 5 then Broadcast else if n == 6 then Control else Private

-- the number of a case
abbrev pub mode_number : Mode → ℕ
mode_number Reserved = 0
mode_number Active = 1
mode_number Passive = 2
mode_number Client = 3
mode_number Server = 4
mode_number Broadcast = 5
mode_number Control = 6
mode_number Private = 7

-- the read of a case
abbrev pub mode_read : Order → Decoder Mode
mode_read o = and_then (unsigned_decoder o 8 3) (λ v. pure (mode_of v))

-- the number of each case fits its bits, and decodes to that case
pub mode_small : (it : Mode) → nat_lt (mode_number it) (2 ^ 3) ≡ true
mode_small Reserved = refl
mode_small Active = refl
mode_small Passive = refl
mode_small Client = refl
mode_small Server = refl
mode_small Broadcast = refl
mode_small Control = refl
mode_small Private = refl

pub mode_again : (it : Mode) → mode_of (mode_number it) ≡ it
mode_again Reserved = refl
mode_again Active = refl
mode_again Passive = refl
mode_again Client = refl
mode_again Server = refl
mode_again Broadcast = refl
mode_again Control = refl
mode_again Private = refl

-- the cases, by their numbers
abbrev pub mode_cases : PlainFormat Mode
mode_cases = cases 8 3 refl mode_of mode_number mode_small mode_again

-- the lines, in order
abbrev pub ntp_packet_lines : FormatParts NtpPacket NtpPacket (λ s. s)
ntp_packet_lines = do
  leap ← field leap_cases (λ s. s.leap)
  version ← field (atom.unsigned 8 3 refl) (λ s. s.version)
  mode ← field mode_cases (λ s. s.mode)
  stratum ← field (atom.unsigned 8 8 refl) (λ s. s.stratum)
  poll ← field (atom.signed 8 8 refl refl) (λ s. s.poll)
  precision ← field (atom.signed 8 8 refl refl) (λ s. s.precision)
  root_delay ← field (atom.unsigned 32 32 refl) (λ s. s.root_delay)
  root_dispersion ← field (atom.unsigned 32 32 refl) (λ s. s.root_dispersion)
  reference ← field (atom.bytes 4) (λ s. s.reference)
  updated ← field ntp_timestamp_format (λ s. s.updated)
  origin ← field ntp_timestamp_format (λ s. s.origin)
  received ← field ntp_timestamp_format (λ s. s.received)
  sent ← field ntp_timestamp_format (λ s. s.sent)
  done (record {
    leap = leap;
    version = version;
    mode = mode;
    stratum = stratum;
    poll = poll;
    precision = precision;
    root_delay = root_delay;
    root_dispersion = root_dispersion;
    reference = reference;
    updated = updated;
    origin =
        origin;
    received = received;
    sent = sent;
  })

-- the reads, in order
abbrev pub ntp_packet_decoder : Order → Decoder NtpPacket
ntp_packet_decoder o = ntp_packet_lines.read o

-- the writes, in order
abbrev pub ntp_packet_writes : Order → NtpPacket → List Encoder
ntp_packet_writes o value = ntp_packet_lines.write o value

-- each field fits its bits
pub record Fits (value : NtpPacket) : Type 0 where
  pub version : value.version < 2 ^ 3
  pub stratum : value.stratum < 2 ^ 8
  pub poll : FitsSignedBits 8 value.poll
  pub precision : FitsSignedBits 8 value.precision
  pub root_delay : value.root_delay < 2 ^ 32
  pub root_dispersion : value.root_dispersion < 2 ^ 32
  pub reference_count : length value.reference ≡ 4
  pub reference : All (λ b. b < 256) value.reference
  pub updated : NtpTimestampFits value.updated
  pub origin : NtpTimestampFits value.origin
  pub received : NtpTimestampFits value.received
  pub sent : NtpTimestampFits value.sent

-- the number of bits
abbrev pub ntp_packet_size : Order → NtpPacket → ℕ
ntp_packet_size o value = 384

-- the format, with the facts that must fit by name
abbrev pub ntp_packet_format : PlainFormat NtpPacket
ntp_packet_format = named Fits (format ntp_packet_lines (λ s. refl {a = s}))
    (λ s fits. fits.version & fits.stratum & fits.poll & fits.precision & fits.root_delay & fits.root_dispersion &
    fits.reference_count & fits.reference & fits.updated & fits.origin & fits.received & fits.sent)

-- the bits of all fields, up to a whole byte
unfoldable pub ntp_packet_bits : NtpPacket → List Bool
ntp_packet_bits value = write_sequence (ntp_packet_writes High value ++ align ∷ []) 0

-- the fields in bits, each by its place
abbrev pub ntp_packet_at : List Bool → NtpPacket
ntp_packet_at bits = record {
  leap = leap_of (number High (bits_at 0 2 bits));
  version = number High (bits_at 2 3 bits);
  mode = mode_of (number High (bits_at 5 3 bits));
  stratum = number High (bits_at 8 8 bits);
  poll = signed_number High (bits_at 16 8 bits);
  precision = signed_number High (bits_at 24 8 bits);
  root_delay = number High (bits_at 32 32 bits);
  root_dispersion = number High (bits_at 64 32 bits);
  reference = bytes_of High 4 (bits_at 96 32 bits);
  updated = record { seconds = number High (bits_at 128 32 bits); fraction = number High (bits_at 160 32 bits) };
  origin = record { seconds = number High (bits_at 192 32 bits); fraction = number High (bits_at 224 32 bits) };
  received = record { seconds = number High (bits_at 256 32 bits); fraction = number High (bits_at 288 32 bits) };
  sent = record { seconds = number High (bits_at 320 32 bits); fraction = number High (bits_at 352 32 bits) };
}
