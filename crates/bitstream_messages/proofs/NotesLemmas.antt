-- Made by `./format` from formats/notes.fields: edit that file and make this one anew.
-- A written `Notes` is read back, and its number of bits.
use Rattle.bitstream_messages.specs.Notes.{notes_decoder, notes_writes, notes_size, notes_format, notes_bits, Fits}
use Rattle.bitstream_messages.specs.declared.notes.Notes.{Notes}
use Rattle.std.proofs.Common.{◌≡◌, ◌++◌, ◌∷◌, [], ℕ, Ok, refl}
use Rattle.bitstream_io.proofs.CallerLemmas.{RoundTrip, Packs}
use Rattle.bitstream_io.specs.Callers.{Order, High, align, write_sequence, AllAccepted}

-- a written value is read back
pub notes_goes : (o : Order) (value : Notes) → Fits value
    → RoundTrip (notes_decoder o) (notes_writes o value) (Ok value)
notes_goes = notes_format.round_trip

-- each write is accepted, and the value's size is the number of bits written
pub notes_packs : (o : Order) (value : Notes) → Fits value
    → Packs (notes_writes o value) (notes_size o value)
notes_packs = notes_format.packs

-- each field fits if each write is accepted
pub notes_fits : (o : Order) (value : Notes) (at : ℕ) → AllAccepted (notes_writes o value) at → Fits value
notes_fits o value at = notes_format.accepted o value at (λ k d below. tt)

-- the bits, of which a search is to see no part
pub told : (value : Notes)
    → write_sequence (notes_writes High value ++ align ∷ []) 0 ≡ notes_bits value
unfolding notes_bits
told value = refl
