-- A timestamp of NTP (RFC 5905, section 6).
use Rattle.protocols.specs.declared.ntp_timestamp.NtpTimestamp.{NtpTimestamp}
use Rattle.std.proofs.Common.{refl}
use Rattle.bitstream_format.specs.Format.{◌>>=◌, Plain as PlainFormat, Parts as FormatParts, format, renamed, field, ◌&◌, done}
use Rattle.std.specs.Prelude.{◌^◌, ◌<◌, ◌++◌, ◌∷◌, [], ℕ, Bool, List, take, drop}
use Rattle.bitstream_io.specs.Callers.{Decoder, Encoder, Order, High, number, align, write_sequence}
use Rattle.bitstream_format.specs.Atoms as atom

-- Made by `./format` from formats/ntp_timestamp.fields: edit that file and make this one anew.

-- n bits after the first k
abbrev pub bits_at : ℕ → ℕ → List Bool → List Bool
bits_at k n bits = take n (drop k bits)

-- the lines, in order
abbrev pub ntp_timestamp_lines : FormatParts NtpTimestamp NtpTimestamp (λ s. s)
ntp_timestamp_lines = do
  seconds ← field (atom.unsigned 32 32 refl) (λ s. s.seconds)
  fraction ← field (atom.unsigned 32 32 refl) (λ s. s.fraction)
  done (record { seconds = seconds; fraction = fraction })

-- the reads, in order
abbrev pub ntp_timestamp_decoder : Order → Decoder NtpTimestamp
ntp_timestamp_decoder o = ntp_timestamp_lines.read o

-- the writes, in order
abbrev pub ntp_timestamp_writes : Order → NtpTimestamp → List Encoder
ntp_timestamp_writes o value = ntp_timestamp_lines.write o value

-- each field fits its bits
pub record Fits (value : NtpTimestamp) : Type 0 where
  pub seconds : value.seconds < 2 ^ 32
  pub fraction : value.fraction < 2 ^ 32

-- the number of bits
abbrev pub ntp_timestamp_size : Order → NtpTimestamp → ℕ
ntp_timestamp_size o value = 64

-- the format, with the facts that must fit by name
abbrev pub ntp_timestamp_format : PlainFormat NtpTimestamp
ntp_timestamp_format = renamed Fits (format ntp_timestamp_lines (λ s. refl {a = s}))
    (λ s fits. fits.seconds & fits.fraction)
    (λ s facts. record { seconds = facts.0; fraction = facts.1 })

-- the bits of all fields, up to a whole byte
unfoldable pub ntp_timestamp_bits : NtpTimestamp → List Bool
ntp_timestamp_bits value = write_sequence (ntp_timestamp_writes High value ++ align ∷ []) 0

-- the fields in bits, each by its place
abbrev pub ntp_timestamp_at : List Bool → NtpTimestamp
ntp_timestamp_at bits = record {
  seconds = number High (bits_at 0 32 bits);
  fraction = number High (bits_at 32 32 bits);
}
