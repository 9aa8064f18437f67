-- Made by `./format` from formats/renegotiation.fields: edit that file and make this one anew.
-- A written `Renegotiation` is read back, and its number of bits.
use Rattle.bitstream_messages.specs.Renegotiation.{renegotiation_decoder, renegotiation_writes, renegotiation_size, renegotiation_format, renegotiation_bits, Fits}
use Rattle.bitstream_messages.specs.declared.renegotiation.Renegotiation.{Renegotiation}
use Rattle.std.proofs.Common.{◌≡◌, ◌++◌, ◌∷◌, [], Ok, refl}
use Rattle.bitstream_io.proofs.CallerLemmas.{RoundTrip, Packs}
use Rattle.bitstream_io.specs.Callers.{Order, High, align, write_sequence}

-- a written value is read back
pub renegotiation_goes : (o : Order) (value : Renegotiation) → Fits value
    → RoundTrip (renegotiation_decoder o) (renegotiation_writes o value) (Ok value)
renegotiation_goes = renegotiation_format.round_trip

-- each write is accepted, and the value's size is the number of bits written
pub renegotiation_packs : (o : Order) (value : Renegotiation) → Fits value
    → Packs (renegotiation_writes o value) (renegotiation_size o value)
renegotiation_packs = renegotiation_format.packs

-- the bits, of which a search is to see no part
pub told : (value : Renegotiation)
    → write_sequence (renegotiation_writes High value ++ align ∷ []) 0 ≡ renegotiation_bits value
unfolding renegotiation_bits
told value = refl
