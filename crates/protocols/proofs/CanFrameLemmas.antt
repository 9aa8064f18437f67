-- Made by `./format` from formats/can_frame.fields: edit that file and make this one anew.
-- A written `CanFrame` is read back, and its number of bits.
use Rattle.protocols.specs.CanFrame.{can_frame_decoder, can_frame_writes, can_frame_size, can_frame_format, can_frame_bits, Fits}
use Rattle.protocols.specs.declared.can_frame.CanFrame.{CanFrame}
use Rattle.std.proofs.Common.{◌≡◌, ◌++◌, ◌∷◌, [], ℕ, refl}
use Rattle.bitstream_io.proofs.CallerLemmas.{RoundTrip, Packs}
use Rattle.bitstream_io.specs.Callers.{Order, High, align, write_sequence, AllAccepted}

-- a written value is read back
pub can_frame_goes : (o : Order) (value : CanFrame) → Fits value
    → RoundTrip (can_frame_decoder o) (can_frame_writes o value) value
can_frame_goes = can_frame_format.round_trip

-- each write is accepted, and the value's size is the number of bits written
pub can_frame_packs : (o : Order) (value : CanFrame) → Fits value
    → Packs (can_frame_writes o value) (can_frame_size o value)
can_frame_packs = can_frame_format.packs

-- each field fits if each write is accepted
pub can_frame_fits : (o : Order) (value : CanFrame) (at : ℕ) → AllAccepted (can_frame_writes o value) at → Fits value
can_frame_fits o value at = can_frame_format.accepted o value at tt

-- the bits, of which a search is to see no part
pub told : (value : CanFrame)
    → write_sequence (can_frame_writes High value ++ align ∷ []) 0 ≡ can_frame_bits value
unfolding can_frame_bits
told value = refl
