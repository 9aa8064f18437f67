-- Levels that were noted at one place.
use Rattle.bitstream_messages.specs.declared.notes.Notes.{Notes}
use Rattle.std.proofs.Common.{refl}
use Rattle.bitstream_format.specs.Format.{◌>>=◌, Own as OwnFormat, Parts as FormatParts, format, renamed, field, ◌&◌, own_done}
use Rattle.bitstream_format.specs.Lists.{even_list}
use Rattle.std.specs.Prelude.{◌^◌, ◌<◌, ◌++◌, ◌∷◌, [], ℕ, Bool, List, Result, Ok, length}
use Rattle.std.specs.List.{All}
use Rattle.bitstream_io.specs.Callers.{Decoder, Encoder, Error, Order, High, align, write_sequence}
use Rattle.bitstream_format.specs.Atoms as atom

-- Made by `./format` from formats/notes.fields: edit that file and make this one anew.

-- the lines, in order
abbrev pub notes_lines : FormatParts Notes (Result Notes Error) (λ s. Ok s)
notes_lines = do
  place ← field (atom.unsigned 8 8 refl) (λ s. s.place)
  levels_count ← field (atom.unsigned 64 8 refl) (λ s. length s.levels)
  levels ← even_list levels_count 16 (atom.unsigned 16 16 refl) (λ x. refl) (λ s. s.levels)
  own_done (record { place = place; levels = levels })

-- the reads, in order
abbrev pub notes_decoder : Order → Decoder (Result Notes Error)
notes_decoder o = notes_lines.read o

-- the writes, in order
abbrev pub notes_writes : Order → Notes → List Encoder
notes_writes o value = notes_lines.write o value

-- each field fits its bits
pub record Fits (value : Notes) : Type 0 where
  pub place : value.place < 2 ^ 8
  pub levels_count : length value.levels < 2 ^ 8
  pub levels : All (λ x. x < 2 ^ 16) value.levels

-- the number of bits
abbrev pub notes_size : Order → Notes → ℕ
notes_size o value = notes_lines.size value

-- the format, with the facts that must fit by name
abbrev pub notes_format : OwnFormat Error Notes
notes_format = renamed Fits (format notes_lines (λ s. (refl, refl {a = s})))
    (λ s fits. fits.place & fits.levels_count & fits.levels)
    (λ s facts. record { place = facts.0; levels_count = facts.1.0; levels = facts.1.1 })

-- the bits of all fields, up to a whole byte
unfoldable pub notes_bits : Notes → List Bool
notes_bits value = write_sequence (notes_writes High value ++ align ∷ []) 0
