-- Made by `./format` from formats/signal.fields: edit that file and make this one anew.
-- A written `Signal` is read back, and its number of bits.
use Rattle.bitstream_messages.specs.Signal.{signal_decoder, signal_writes, signal_size, signal_format, signal_bits, Fits}
use Rattle.bitstream_messages.specs.declared.signal.Signal.{Signal}
use Rattle.std.proofs.Common.{◌≡◌, ◌++◌, ◌∷◌, [], refl}
use Rattle.bitstream_io.proofs.CallerLemmas.{RoundTrip, Packs}
use Rattle.bitstream_io.specs.Callers.{Order, High, align, write_sequence}

-- a written value is read back
pub signal_goes : (o : Order) (value : Signal) → Fits value
    → RoundTrip (signal_decoder o) (signal_writes o value) value
signal_goes = signal_format.round_trip

-- each write is accepted, and the value's size is the number of bits written
pub signal_packs : (o : Order) (value : Signal) → Fits value
    → Packs (signal_writes o value) (signal_size o value)
signal_packs = signal_format.packs

-- the bits, of which a search is to see no part
pub told : (value : Signal)
    → write_sequence (signal_writes High value ++ align ∷ []) 0 ≡ signal_bits value
unfolding signal_bits
told value = refl
