-- A measurement of a vehicle's telemetry at one time.
use Rattle.bitstream_callers.specs.declared.sample.Sample.{Sample}
use Rattle.std.proofs.Common.{refl}
use Rattle.bitstream_format.specs.Format.{◌>>=◌, Plain as PlainFormat, Parts as FormatParts, format, renamed, field, ◌&◌, done}
use Rattle.std.specs.Prelude.{◌^◌, ◌<◌, ◌++◌, ◌∷◌, [], ℕ, Bool, List, take, drop}
use Rattle.bitstream_io.specs.Callers.{Decoder, Encoder, Order, High, number, signed_number, FitsSignedBits, first_bit, align, write_sequence}
use Rattle.bitstream_format.specs.Atoms as atom

-- Made by `./format` from formats/sample.fields: edit that file and make this one anew.

-- n bits after the first k
abbrev pub bits_at : ℕ → ℕ → List Bool → List Bool
bits_at k n bits = take n (drop k bits)

-- the lines, in order
abbrev pub sample_lines : FormatParts Sample Sample (λ s. s)
sample_lines = do
  seconds ← field (atom.unsigned 32 20 refl) (λ s. s.seconds)
  running ← field atom.bool (λ s. s.running)
  temperature ← field (atom.signed 16 9 refl refl) (λ s. s.temperature)
  pressure ← field (atom.unsigned 32 18 refl) (λ s. s.pressure)
  done (record { seconds = seconds; running = running; temperature = temperature; pressure = pressure })

-- the reads, in order
abbrev pub sample_decoder : Order → Decoder Sample
sample_decoder o = sample_lines.read o

-- the writes, in order
abbrev pub sample_writes : Order → Sample → List Encoder
sample_writes o value = sample_lines.write o value

-- each field fits its bits
pub record Fits (value : Sample) : Type 0 where
  pub seconds : value.seconds < 2 ^ 20
  pub temperature : FitsSignedBits 9 value.temperature
  pub pressure : value.pressure < 2 ^ 18

-- the number of bits
abbrev pub sample_size : Order → Sample → ℕ
sample_size o value = 48

-- the format, with the facts that must fit by name
abbrev pub sample_format : PlainFormat Sample
sample_format = renamed Fits (format sample_lines (λ s. refl {a = s}))
    (λ s fits. fits.seconds & fits.temperature & fits.pressure)
    (λ s facts. record { seconds = facts.0; temperature = facts.1.0; pressure = facts.1.1 })

-- the bits of all fields, up to a whole byte
unfoldable pub sample_bits : Sample → List Bool
sample_bits value = write_sequence (sample_writes High value ++ align ∷ []) 0

-- the fields in bits, each by its place
abbrev pub sample_at : List Bool → Sample
sample_at bits = record {
  seconds = number High (bits_at 0 20 bits);
  running = first_bit (bits_at 20 1 bits);
  temperature = signed_number High (bits_at 21 9 bits);
  pressure = number High (bits_at 30 18 bits);
}
