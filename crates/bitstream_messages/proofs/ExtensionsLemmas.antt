-- Made by `./format` from formats/extensions.fields: edit that file and make this one anew.
-- A written `Extensions` is read back, and its number of bits.
use Rattle.bitstream_messages.specs.Extensions.{extensions_decoder, extensions_writes, extensions_size, extensions_format, extensions_bits, Fits}
use Rattle.bitstream_messages.specs.declared.extensions.Extensions.{Extensions}
use Rattle.std.proofs.Common.{◌≡◌, ◌++◌, ◌∷◌, [], Ok, refl}
use Rattle.bitstream_io.proofs.CallerLemmas.{RoundTrip, Packs}
use Rattle.bitstream_io.specs.Callers.{Order, High, align, write_sequence}

-- a written value is read back
pub extensions_goes : (o : Order) (value : Extensions) → Fits value
    → RoundTrip (extensions_decoder o) (extensions_writes o value) (Ok value)
extensions_goes = extensions_format.round_trip

-- each write is accepted, and the value's size is the number of bits written
pub extensions_packs : (o : Order) (value : Extensions) → Fits value
    → Packs (extensions_writes o value) (extensions_size o value)
extensions_packs = extensions_format.packs

-- the bits, of which a search is to see no part
pub told : (value : Extensions)
    → write_sequence (extensions_writes High value ++ align ∷ []) 0 ≡ extensions_bits value
unfolding extensions_bits
told value = refl
