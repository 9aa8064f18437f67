-- Made by `./format` from formats/mark.fields: edit that file and make this one anew.
-- A written `Mark` is read back, and its number of bits.
use Rattle.bitstream_messages.specs.Mark.{mark_decoder, mark_writes, mark_size, mark_format, mark_bits, Fits}
use Rattle.bitstream_messages.specs.declared.mark.Mark.{Mark}
use Rattle.std.proofs.Common.{◌≡◌, ◌++◌, ◌∷◌, [], ℕ, Ok, refl}
use Rattle.bitstream_io.proofs.CallerLemmas.{RoundTrip, Packs}
use Rattle.bitstream_io.specs.Callers.{Order, High, align, write_sequence, AllAccepted}

-- a written value is read back
pub mark_goes : (o : Order) (value : Mark) → Fits value
    → RoundTrip (mark_decoder o) (mark_writes o value) (Ok value)
mark_goes = mark_format.round_trip

-- each write is accepted, and the value's size is the number of bits written
pub mark_packs : (o : Order) (value : Mark) → Fits value
    → Packs (mark_writes o value) (mark_size o value)
mark_packs = mark_format.packs

-- each field fits if each write is accepted
pub mark_fits : (o : Order) (value : Mark) (at : ℕ) → AllAccepted (mark_writes o value) at → Fits value
mark_fits o value at = mark_format.accepted o value at tt

-- the bits, of which a search is to see no part
pub told : (value : Mark)
    → write_sequence (mark_writes High value ++ align ∷ []) 0 ≡ mark_bits value
unfolding mark_bits
told value = refl
