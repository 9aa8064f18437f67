-- The start of a FLAC file, up to the contents of its first block.
use Rattle.bitstream_callers.specs.declared.flac_start.FlacStart.{FlacStart}
use Rattle.bitstream_callers.specs.declared.flac_start.FlacStartError.{FlacStartError}
use Rattle.bitstream_callers.specs.declared.flac_start.FlacStartError.TheVariants.{Reader, NoFlac}
use Rattle.bitstream_callers.specs.BlockHeader.{block_header_format, Fits as BlockHeaderFits}
use Rattle.std.proofs.Common.{refl}
use Rattle.bitstream_format.specs.Format.{◌>>=◌, Own as OwnFormat, Parts as FormatParts, format, renamed, field, const, own_done}
use Rattle.std.specs.Prelude.{◌≡◌, ◌++◌, ◌∷◌, [], ℕ, Bool, List, Result, Ok, take, drop}
use Rattle.bitstream_io.specs.Callers.{Decoder, Encoder, Error, Order, High, number, first_bit, align, write_sequence}

-- Made by `./format` from formats/flac_start.fields: edit that file and make this one anew.

-- an error of the reader is one of the type's
abbrev pub becomes_flac_start : Error → FlacStartError → Type 0
becomes_flac_start error own = own ≡ Reader error

-- n bits after the first k
abbrev pub bits_at : ℕ → ℕ → List Bool → List Bool
bits_at k n bits = take n (drop k bits)

-- the 32 bits at 0, which are 1716281667
abbrev pub const_at_0 : List Bool → ℕ
const_at_0 bits = number High (bits_at 0 32 bits)

-- the lines, in order
abbrev pub flac_start_lines : FormatParts FlacStart (Result FlacStart FlacStartError) (λ s. Ok s)
flac_start_lines = do
  constant_0 ← const 32 1716281667 refl NoFlac
  block ← field block_header_format (λ s. s.block)
  own_done (record { block = block })

-- the reads, in order
abbrev pub flac_start_decoder : Order → Decoder (Result FlacStart FlacStartError)
flac_start_decoder o = flac_start_lines.read o

-- the writes, in order
abbrev pub flac_start_writes : Order → FlacStart → List Encoder
flac_start_writes o value = flac_start_lines.write o value

-- each field fits its bits
pub record Fits (value : FlacStart) : Type 0 where
  pub block : BlockHeaderFits value.block

-- the number of bits
abbrev pub flac_start_size : Order → FlacStart → ℕ
flac_start_size o value = 64

-- the format, with the facts that must fit by name
abbrev pub flac_start_format : OwnFormat FlacStartError FlacStart
flac_start_format = renamed Fits (format flac_start_lines (λ s. refl {a = s}))
    (λ s fits. fits.block)
    (λ s facts. record { block = facts })

-- the bits of all fields, up to a whole byte
unfoldable pub flac_start_bits : FlacStart → List Bool
flac_start_bits value = write_sequence (flac_start_writes High value ++ align ∷ []) 0

-- the fields in bits, each by its place
abbrev pub flac_start_at : List Bool → FlacStart
flac_start_at bits = record {
  block = record {
    last = first_bit (bits_at 32 1 bits);
    kind = number High (bits_at 33 7 bits);
    size = number High
        (bits_at 40 24 bits);
  };
}
