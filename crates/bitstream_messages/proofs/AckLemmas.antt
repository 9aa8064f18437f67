-- Made by `./format` from formats/ack.fields: edit that file and make this one anew.
-- A written `Ack` is read back, and its number of bits.
use Rattle.bitstream_messages.specs.Ack.{ack_decoder, ack_writes, ack_size, ack_format, ack_bits, Fits}
use Rattle.bitstream_messages.specs.declared.ack.Ack.{Ack}
use Rattle.std.proofs.Common.{◌≡◌, ◌++◌, ◌∷◌, [], ℕ, refl}
use Rattle.bitstream_io.proofs.CallerLemmas.{RoundTrip, Packs}
use Rattle.bitstream_io.specs.Callers.{Order, High, align, write_sequence, AllAccepted}

-- a written value is read back
pub ack_goes : (o : Order) (value : Ack) → Fits value
    → RoundTrip (ack_decoder o) (ack_writes o value) value
ack_goes = ack_format.round_trip

-- each write is accepted, and the value's size is the number of bits written
pub ack_packs : (o : Order) (value : Ack) → Fits value
    → Packs (ack_writes o value) (ack_size o value)
ack_packs = ack_format.packs

-- each field fits if each write is accepted
pub ack_fits : (o : Order) (value : Ack) (at : ℕ) → AllAccepted (ack_writes o value) at → Fits value
ack_fits o value at = ack_format.accepted o value at tt

-- the bits, of which a search is to see no part
pub told : (value : Ack)
    → write_sequence (ack_writes High value ++ align ∷ []) 0 ≡ ack_bits value
unfolding ack_bits
told value = refl
