-- Made by `./format` from formats/adsb_message.fields: edit that file and make this one anew.
-- A written `AdsbMessage` is read back, and its number of bits.
use Rattle.protocols.specs.AdsbMessage.{adsb_message_decoder, adsb_message_writes, adsb_message_size, adsb_message_format, adsb_message_bits, Fits}
use Rattle.protocols.specs.declared.adsb_message.AdsbMessage.{AdsbMessage}
use Rattle.std.proofs.Common.{◌≡◌, ◌++◌, ◌∷◌, [], ℕ, Ok, refl}
use Rattle.bitstream_io.proofs.CallerLemmas.{RoundTrip, Packs}
use Rattle.bitstream_io.specs.Callers.{Order, High, align, write_sequence, AllAccepted}

-- a written value is read back
pub adsb_message_goes : (o : Order) (value : AdsbMessage) → Fits value
    → RoundTrip (adsb_message_decoder o) (adsb_message_writes o value) (Ok value)
adsb_message_goes = adsb_message_format.round_trip

-- each write is accepted, and the value's size is the number of bits written
pub adsb_message_packs : (o : Order) (value : AdsbMessage) → Fits value
    → Packs (adsb_message_writes o value) (adsb_message_size o value)
adsb_message_packs = adsb_message_format.packs

-- each field fits if each write is accepted
pub adsb_message_fits : (o : Order) (value : AdsbMessage) (at : ℕ) → AllAccepted (adsb_message_writes o value) at → Fits
    value
adsb_message_fits o value at = adsb_message_format.accepted o value at tt

-- the bits, of which a search is to see no part
pub told : (value : AdsbMessage)
    → write_sequence (adsb_message_writes High value ++ align ∷ []) 0 ≡ adsb_message_bits value
unfolding adsb_message_bits
told value = refl
