-- The header of a packet of an MPEG transport stream (ISO/IEC 13818-1, section 2.4.3.2).
use Rattle.bitstream_formats.specs.declared.ts_header.TsHeader.{TsHeader}
use Rattle.bitstream_formats.specs.declared.ts_header.TsHeaderError.{TsHeaderError}
use Rattle.bitstream_formats.specs.declared.ts_header.TsHeaderError.TheVariants.{Reader, NoSync}
use Rattle.std.proofs.Common.{refl}
use Rattle.bitstream_format.specs.Format.{◌>>=◌, Own as OwnFormat, Parts as FormatParts, format, renamed, field, const, ◌&◌, own_done}
use Rattle.std.specs.Prelude.{◌≡◌, ◌^◌, ◌<◌, ◌++◌, ◌∷◌, [], ℕ, Bool, List, Result, Ok, take, drop}
use Rattle.bitstream_io.specs.Callers.{Decoder, Encoder, Error, Order, High, number, first_bit, align, write_sequence}
use Rattle.bitstream_format.specs.Atoms as atom

-- Made by `./format` from formats/ts_header.fields: edit that file and make this one anew.

-- an error of the reader is one of the type's
abbrev pub becomes_ts_header : Error → TsHeaderError → Type 0
becomes_ts_header error own = own ≡ Reader error

-- n bits after the first k
abbrev pub bits_at : ℕ → ℕ → List Bool → List Bool
bits_at k n bits = take n (drop k bits)

-- the 8 bits at 0, which are 71
abbrev pub const_at_0 : List Bool → ℕ
const_at_0 bits = number High (bits_at 0 8 bits)

-- the lines, in order
abbrev pub ts_header_lines : FormatParts TsHeader (Result TsHeader TsHeaderError) (λ s. Ok s)
ts_header_lines = do
  constant_0 ← const 8 71 refl NoSync
  damaged ← field atom.bool (λ s. s.damaged)
  starts ← field atom.bool (λ s. s.starts)
  priority ← field atom.bool (λ s. s.priority)
  pid ← field (atom.unsigned 16 13 refl) (λ s. s.pid)
  scrambling ← field (atom.unsigned 8 2 refl) (λ s. s.scrambling)
  adapted ← field atom.bool (λ s. s.adapted)
  payload ← field atom.bool (λ s. s.payload)
  continuity ← field (atom.unsigned 8 4 refl) (λ s. s.continuity)
  own_done (record {
    damaged = damaged;
    starts = starts;
    priority = priority;
    pid = pid;
    scrambling = scrambling;
    adapted = adapted;
    payload = payload;
    continuity = continuity;
  })

-- the reads, in order
abbrev pub ts_header_decoder : Order → Decoder (Result TsHeader TsHeaderError)
ts_header_decoder o = ts_header_lines.read o

-- the writes, in order
abbrev pub ts_header_writes : Order → TsHeader → List Encoder
ts_header_writes o value = ts_header_lines.write o value

-- each field fits its bits
pub record Fits (value : TsHeader) : Type 0 where
  pub pid : value.pid < 2 ^ 13
  pub scrambling : value.scrambling < 2 ^ 2
  pub continuity : value.continuity < 2 ^ 4

-- the number of bits
abbrev pub ts_header_size : Order → TsHeader → ℕ
ts_header_size o value = 32

-- the format, with the facts that must fit by name
abbrev pub ts_header_format : OwnFormat TsHeaderError TsHeader
ts_header_format = renamed Fits (format ts_header_lines (λ s. refl {a = s}))
    (λ s fits. fits.pid & fits.scrambling & fits.continuity)
    (λ s facts. record { pid = facts.0; scrambling = facts.1.0; continuity = facts.1.1 })

-- the bits of all fields, up to a whole byte
unfoldable pub ts_header_bits : TsHeader → List Bool
ts_header_bits value = write_sequence (ts_header_writes High value ++ align ∷ []) 0

-- the fields in bits, each by its place
abbrev pub ts_header_at : List Bool → TsHeader
ts_header_at bits = record {
  damaged = first_bit (bits_at 8 1 bits);
  starts = first_bit (bits_at 9 1 bits);
  priority = first_bit (bits_at 10 1 bits);
  pid = number High (bits_at 11 13 bits);
  scrambling = number High (bits_at 24 2 bits);
  adapted = first_bit (bits_at 26 1 bits);
  payload = first_bit (bits_at 27 1 bits);
  continuity = number High (bits_at 28 4 bits);
}
