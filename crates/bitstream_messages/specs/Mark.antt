-- A mark, which begins with a constant.
use Rattle.bitstream_messages.specs.declared.mark.Mark.{Mark}
use Rattle.bitstream_messages.specs.declared.mark.MarkError.{MarkError}
use Rattle.bitstream_messages.specs.declared.mark.MarkError.TheVariants.{Reader, NoMark}
use Rattle.std.proofs.Common.{refl}
use Rattle.bitstream_format.specs.Format.{◌>>=◌, Own as OwnFormat, Parts as FormatParts, format, renamed, field, const, own_done}
use Rattle.std.specs.Prelude.{◌≡◌, ◌^◌, ◌<◌, ◌++◌, ◌∷◌, [], ℕ, Bool, List, Result, Ok, take, drop}
use Rattle.bitstream_io.specs.Callers.{Decoder, Encoder, Error, Order, High, number, align, write_sequence}
use Rattle.bitstream_format.specs.Atoms as atom

-- Made by `./format` from formats/mark.fields: edit that file and make this one anew.

-- an error of the reader is one of the type's
abbrev pub becomes_mark : Error → MarkError → Type 0
becomes_mark error own = own ≡ Reader error

-- n bits after the first k
abbrev pub bits_at : ℕ → ℕ → List Bool → List Bool
bits_at k n bits = take n (drop k bits)

-- the 8 bits at 0, which are 7
abbrev pub const_at_0 : List Bool → ℕ
const_at_0 bits = number High (bits_at 0 8 bits)

-- the lines, in order
abbrev pub mark_lines : FormatParts Mark (Result Mark MarkError) (λ s. Ok s)
mark_lines = do
  constant_0 ← const 8 7 refl NoMark
  color ← field (atom.unsigned 8 8 refl) (λ s. s.color)
  own_done (record { color = color })

-- the reads, in order
abbrev pub mark_decoder : Order → Decoder (Result Mark MarkError)
mark_decoder o = mark_lines.read o

-- the writes, in order
abbrev pub mark_writes : Order → Mark → List Encoder
mark_writes o value = mark_lines.write o value

-- each field fits its bits
pub record Fits (value : Mark) : Type 0 where
  pub color : value.color < 2 ^ 8

-- the number of bits
abbrev pub mark_size : Order → Mark → ℕ
mark_size o value = 16

-- the format, with the facts that must fit by name
abbrev pub mark_format : OwnFormat MarkError Mark
mark_format = renamed Fits (format mark_lines (λ s. refl {a = s}))
    (λ s fits. fits.color)
    (λ s facts. record { color = facts })

-- the bits of all fields, up to a whole byte
unfoldable pub mark_bits : Mark → List Bool
mark_bits value = write_sequence (mark_writes High value ++ align ∷ []) 0

-- the fields in bits, each by its place
abbrev pub mark_at : List Bool → Mark
mark_at bits = record {
  color = number High (bits_at 8 8 bits);
}
