-- The header of a packet of an MPEG transport stream (ISO/IEC 13818-1, section 2.4.3.2).
use Rattle.protocols.specs.declared.ts_header.TsHeader.{TsHeader}
use Rattle.protocols.specs.declared.ts_header.TsError.{TsError}
use Rattle.protocols.specs.declared.ts_header.TsError.TheVariants.{Reader, NoSync, NoAdaptation}
use Rattle.protocols.specs.declared.ts_header.Adaptation.{Adaptation}
use Rattle.protocols.specs.declared.ts_header.Adaptation.TheVariants.{Payload, Field, Both}
use Rattle.std.proofs.Common.{refl, true}
use Rattle.bitstream_format.specs.Format.{◌>>=◌, Own as OwnFormat, Parts as FormatParts, format, renamed, field, own_field, const, ◌&◌, own_done}
use Rattle.bitstream_format.specs.Cases.{cases}
use Rattle.std.specs.Prelude.{◌≡◌, ◌^◌, ◌<◌, ◌++◌, ◌∷◌, [], ◌==◌, if◌then◌else◌, ℕ, Bool, List, Result, Ok, Err, take, drop, nat_lt}
use Rattle.bitstream_io.specs.Callers.{Decoder, Encoder, pure, Error, Order, High, number, and_then, first_bit, unsigned_decoder, align, write_sequence}
use Rattle.bitstream_format.specs.Atoms as atom

-- Made by `./format` from formats/ts_header.fields: edit that file and make this one anew.

-- an error of the reader is one of the type's
abbrev pub becomes_ts_header : Error → TsError → Type 0
becomes_ts_header error own = own ≡ Reader error

-- n bits after the first k
abbrev pub bits_at : ℕ → ℕ → List Bool → List Bool
bits_at k n bits = take n (drop k bits)

-- the 8 bits at 0, which are 71
abbrev pub const_at_0 : List Bool → ℕ
const_at_0 bits = number High (bits_at 0 8 bits)

-- the case of a number
abbrev pub adaptation_of : ℕ → (Result Adaptation TsError)
adaptation_of n = if n == 1 then Ok Payload else if n == 2 then Ok Field else if n == 3 then Ok Both else Err
    NoAdaptation

-- the number of a case
abbrev pub adaptation_number : Adaptation → ℕ
adaptation_number Payload = 1
adaptation_number Field = 2
adaptation_number Both = 3

-- the read of a case
abbrev pub adaptation_read : Order → Decoder (Result Adaptation TsError)
adaptation_read o = and_then (unsigned_decoder o 8 2) (λ v. pure (adaptation_of v))

-- the number of each case fits its bits, and decodes to that case
pub adaptation_small : (it : Adaptation) → nat_lt (adaptation_number it) (2 ^ 2) ≡ true
adaptation_small Payload = refl
adaptation_small Field = refl
adaptation_small Both = refl

pub adaptation_again : (it : Adaptation) → adaptation_of (adaptation_number it) ≡ Ok it
adaptation_again Payload = refl
adaptation_again Field = refl
adaptation_again Both = refl

-- the cases, by their numbers
abbrev pub adaptation_cases : OwnFormat TsError Adaptation
adaptation_cases = cases 8 2 refl adaptation_of adaptation_number adaptation_small adaptation_again

-- the lines, in order
abbrev pub ts_header_lines : FormatParts TsHeader (Result TsHeader TsError) (λ s. Ok s)
ts_header_lines = do
  constant_0 ← const 8 71 refl NoSync
  damaged ← field atom.bool (λ s. s.damaged)
  starts ← field atom.bool (λ s. s.starts)
  priority ← field atom.bool (λ s. s.priority)
  pid ← field (atom.unsigned 16 13 refl) (λ s. s.pid)
  scrambling ← field (atom.unsigned 8 2 refl) (λ s. s.scrambling)
  adaptation ← own_field adaptation_cases (λ s. s.adaptation)
  continuity ← field (atom.unsigned 8 4 refl) (λ s. s.continuity)
  own_done (record {
    damaged = damaged;
    starts = starts;
    priority = priority;
    pid = pid;
    scrambling = scrambling;
    adaptation = adaptation;
    continuity = continuity;
  })

-- the reads, in order
abbrev pub ts_header_decoder : Order → Decoder (Result TsHeader TsError)
ts_header_decoder o = ts_header_lines.read o

-- the writes, in order
abbrev pub ts_header_writes : Order → TsHeader → List Encoder
ts_header_writes o value = ts_header_lines.write o value

-- each field fits its bits
pub record Fits (value : TsHeader) : Type 0 where
  pub pid : value.pid < 2 ^ 13
  pub scrambling : value.scrambling < 2 ^ 2
  pub continuity : value.continuity < 2 ^ 4

-- the number of bits
abbrev pub ts_header_size : Order → TsHeader → ℕ
ts_header_size o value = 32

-- the format, with the facts that must fit by name
abbrev pub ts_header_format : OwnFormat TsError TsHeader
ts_header_format = renamed Fits (format ts_header_lines (λ s. refl {a = s}))
    (λ s fits. fits.pid & fits.scrambling & fits.continuity)
    (λ s facts. record { pid = facts.0; scrambling = facts.1.0; continuity = facts.1.1 })

-- the bits of all fields, up to a whole byte
unfoldable pub ts_header_bits : TsHeader → List Bool
ts_header_bits value = write_sequence (ts_header_writes High value ++ align ∷ []) 0

-- the fields in bits, each by its place
abbrev pub ts_header_at : Adaptation → List Bool → TsHeader
ts_header_at adaptation bits = record {
  damaged = first_bit (bits_at 8 1 bits);
  starts = first_bit (bits_at 9 1 bits);
  priority = first_bit (bits_at 10 1 bits);
  pid = number High (bits_at 11 13 bits);
  scrambling = number High (bits_at 24 2 bits);
  adaptation = adaptation;
  continuity = number High (bits_at 28 4 bits);
}
