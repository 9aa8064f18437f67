-- Made by `./format` from formats/event.fields: edit that file and make this one anew.
-- A written `Event` is read back, and its number of bits.
use Rattle.bitstream_messages.specs.Event.{event_decoder, event_writes, event_size, event_format, event_bits, Fits}
use Rattle.bitstream_messages.specs.declared.event.Event.{Event}
use Rattle.std.proofs.Common.{◌≡◌, ◌++◌, ◌∷◌, [], Ok, refl}
use Rattle.bitstream_io.proofs.CallerLemmas.{RoundTrip, Packs}
use Rattle.bitstream_io.specs.Callers.{Order, High, align, write_sequence}

-- a written value is read back
pub event_goes : (o : Order) (value : Event) → Fits value
    → RoundTrip (event_decoder o) (event_writes o value) (Ok value)
event_goes = event_format.round_trip

-- each write is accepted, and the value's size is the number of bits written
pub event_packs : (o : Order) (value : Event) → Fits value
    → Packs (event_writes o value) (event_size o value)
event_packs = event_format.packs

-- the bits, of which a search is to see no part
pub told : (value : Event)
    → write_sequence (event_writes High value ++ align ∷ []) 0 ≡ event_bits value
unfolding event_bits
told value = refl
