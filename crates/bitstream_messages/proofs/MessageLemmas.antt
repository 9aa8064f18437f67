-- Made by `./format` from formats/message.fields: edit that file and make this one anew.
-- A written `Message` is read back, and its number of bits.
use Rattle.bitstream_messages.specs.Message.{message_decoder, message_writes, message_size, message_format, message_bits, Fits}
use Rattle.bitstream_messages.specs.declared.message.Message.{Message}
use Rattle.std.proofs.Common.{◌≡◌, ◌++◌, ◌∷◌, [], Ok, refl}
use Rattle.bitstream_io.proofs.CallerLemmas.{RoundTrip, Packs}
use Rattle.bitstream_io.specs.Callers.{Order, High, align, write_sequence}

-- a written value is read back
pub message_goes : (o : Order) (value : Message) → Fits value
    → RoundTrip (message_decoder o) (message_writes o value) (Ok value)
message_goes = message_format.round_trip

-- each write is accepted, and the value's size is the number of bits written
pub message_packs : (o : Order) (value : Message) → Fits value
    → Packs (message_writes o value) (message_size o value)
message_packs = message_format.packs

-- the bits, of which a search is to see no part
pub told : (value : Message)
    → write_sequence (message_writes High value ++ align ∷ []) 0 ≡ message_bits value
unfolding message_bits
told value = refl
