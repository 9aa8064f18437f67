-- Made by `./format` from formats/mac_frame_control.fields: edit that file and make this one anew.
-- A written `MacFrameControl` is read back, and its number of bits.
use Rattle.protocols.specs.MacFrameControl.{mac_frame_control_decoder, mac_frame_control_writes, mac_frame_control_size, mac_frame_control_format, mac_frame_control_bits, Fits}
use Rattle.protocols.specs.declared.mac_frame_control.MacFrameControl.{MacFrameControl}
use Rattle.std.proofs.Common.{◌≡◌, ◌++◌, ◌∷◌, [], ℕ, refl}
use Rattle.bitstream_io.proofs.CallerLemmas.{RoundTrip, Packs}
use Rattle.bitstream_io.specs.Callers.{Order, Low, align, write_sequence, AllAccepted}

-- a written value is read back
pub mac_frame_control_goes : (o : Order) (value : MacFrameControl) → Fits value
    → RoundTrip (mac_frame_control_decoder o) (mac_frame_control_writes o value) value
mac_frame_control_goes = mac_frame_control_format.round_trip

-- each write is accepted, and the value's size is the number of bits written
pub mac_frame_control_packs : (o : Order) (value : MacFrameControl) → Fits value
    → Packs (mac_frame_control_writes o value) (mac_frame_control_size o value)
mac_frame_control_packs = mac_frame_control_format.packs

-- each field fits if each write is accepted
pub mac_frame_control_fits : (o : Order) (value : MacFrameControl) (at : ℕ) → AllAccepted (mac_frame_control_writes o
    value) at → Fits value
mac_frame_control_fits o value at = mac_frame_control_format.accepted o value at tt

-- the bits, of which a search is to see no part
pub told : (value : MacFrameControl)
    → write_sequence (mac_frame_control_writes Low value ++ align ∷ []) 0 ≡ mac_frame_control_bits value
unfolding mac_frame_control_bits
told value = refl
