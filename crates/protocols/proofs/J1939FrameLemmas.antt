-- Made by `./format` from formats/j1939_frame.fields: edit that file and make this one anew.
-- A written `J1939Frame` is read back, and its number of bits.
use Rattle.protocols.specs.J1939Frame.{j1939_frame_decoder, j1939_frame_writes, j1939_frame_size, j1939_frame_format, j1939_frame_bits, Fits}
use Rattle.protocols.specs.declared.j1939_frame.J1939Frame.{J1939Frame}
use Rattle.std.proofs.Common.{◌≡◌, ◌++◌, ◌∷◌, [], Ok, refl}
use Rattle.bitstream_io.proofs.CallerLemmas.{RoundTrip, Packs}
use Rattle.bitstream_io.specs.Callers.{Order, High, align, write_sequence}

-- a written value is read back
pub j1939_frame_goes : (o : Order) (value : J1939Frame) → Fits value
    → RoundTrip (j1939_frame_decoder o) (j1939_frame_writes o value) (Ok value)
j1939_frame_goes = j1939_frame_format.round_trip

-- each write is accepted, and the value's size is the number of bits written
pub j1939_frame_packs : (o : Order) (value : J1939Frame) → Fits value
    → Packs (j1939_frame_writes o value) (j1939_frame_size o value)
j1939_frame_packs = j1939_frame_format.packs

-- the bits, of which a search is to see no part
pub told : (value : J1939Frame)
    → write_sequence (j1939_frame_writes High value ++ align ∷ []) 0 ≡ j1939_frame_bits value
unfolding j1939_frame_bits
told value = refl
