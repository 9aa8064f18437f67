-- Made by `./format` from formats/frame.fields: edit that file and make this one anew.
-- A written `Frame` is read back, and its number of bits.
use Rattle.bitstream_messages.specs.Frame.{frame_decoder, frame_writes, frame_size, frame_format, frame_bits, Fits}
use Rattle.bitstream_messages.specs.declared.frame.Frame.{Frame}
use Rattle.std.proofs.Common.{◌≡◌, ◌++◌, ◌∷◌, [], Ok, refl}
use Rattle.bitstream_io.proofs.CallerLemmas.{RoundTrip, Packs}
use Rattle.bitstream_io.specs.Callers.{Order, High, align, write_sequence}

-- a written value is read back
pub frame_goes : (o : Order) (value : Frame) → Fits value
    → RoundTrip (frame_decoder o) (frame_writes o value) (Ok value)
frame_goes = frame_format.round_trip

-- each write is accepted, and the value's size is the number of bits written
pub frame_packs : (o : Order) (value : Frame) → Fits value
    → Packs (frame_writes o value) (frame_size o value)
frame_packs = frame_format.packs

-- the bits, of which a search is to see no part
pub told : (value : Frame)
    → write_sequence (frame_writes High value ++ align ∷ []) 0 ≡ frame_bits value
unfolding frame_bits
told value = refl
