-- A program of a program association section (ISO/IEC 13818-1, section 2.4.4.3).
use Rattle.media_messages.specs.declared.ts_program.TsProgram.{TsProgram}
use Rattle.media_messages.specs.declared.ts_program.TsProgramError.{TsProgramError}
use Rattle.media_messages.specs.declared.ts_program.TsProgramError.TheVariants.{Reader, ZeroReserved}
use Rattle.std.proofs.Common.{refl}
use Rattle.bitstream_format.specs.Format.{◌>>=◌, Own as OwnFormat, Parts as FormatParts, format, renamed, field, const, ◌&◌, own_done}
use Rattle.std.specs.Prelude.{◌≡◌, ◌^◌, ◌<◌, ◌++◌, ◌∷◌, [], ℕ, Bool, List, Result, Ok, take, drop}
use Rattle.bitstream_io.specs.Callers.{Decoder, Encoder, Error, Order, High, number, align, write_sequence}
use Rattle.bitstream_format.specs.Atoms as atom

-- Made by `./format` from formats/ts_program.fields: edit that file and make this one anew.

-- an error of the reader is one of the type's
abbrev pub becomes_ts_program : Error → TsProgramError → Type 0
becomes_ts_program error own = own ≡ Reader error

-- n bits after the first k
abbrev pub bits_at : ℕ → ℕ → List Bool → List Bool
bits_at k n bits = take n (drop k bits)

-- the 3 bits at 16, which are 7
abbrev pub const_at_16 : List Bool → ℕ
const_at_16 bits = number High (bits_at 16 3 bits)

-- the lines, in order
abbrev pub ts_program_lines : FormatParts TsProgram (Result TsProgram TsProgramError) (λ s. Ok s)
ts_program_lines = do
  program ← field (atom.unsigned 16 16 refl) (λ s. s.program)
  constant_1 ← const 3 7 refl ZeroReserved
  packets ← field (atom.unsigned 16 13 refl) (λ s. s.packets)
  own_done (record { program = program; packets = packets })

-- the reads, in order
abbrev pub ts_program_decoder : Order → Decoder (Result TsProgram TsProgramError)
ts_program_decoder o = ts_program_lines.read o

-- the writes, in order
abbrev pub ts_program_writes : Order → TsProgram → List Encoder
ts_program_writes o value = ts_program_lines.write o value

-- each field fits its bits
pub record Fits (value : TsProgram) : Type 0 where
  pub program : value.program < 2 ^ 16
  pub packets : value.packets < 2 ^ 13

-- the number of bits
abbrev pub ts_program_size : Order → TsProgram → ℕ
ts_program_size o value = 32

-- the format, with the facts that must fit by name
abbrev pub ts_program_format : OwnFormat TsProgramError TsProgram
ts_program_format = renamed Fits (format ts_program_lines (λ s. refl {a = s}))
    (λ s fits. fits.program & fits.packets)
    (λ s facts. record { program = facts.0; packets = facts.1 })

-- the bits of all fields, up to a whole byte
unfoldable pub ts_program_bits : TsProgram → List Bool
ts_program_bits value = write_sequence (ts_program_writes High value ++ align ∷ []) 0

-- the fields in bits, each by its place
abbrev pub ts_program_at : List Bool → TsProgram
ts_program_at bits = record {
  program = number High (bits_at 0 16 bits);
  packets = number High (bits_at 19 13 bits);
}
