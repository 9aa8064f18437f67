-- Made by `./format` from formats/coap_message.fields: edit that file and make this one anew.
-- A written `CoapMessage` is read back, and its number of bits.
use Rattle.network_messages.specs.CoapMessage.{coap_message_decoder, coap_message_writes, coap_message_size, coap_message_format, coap_message_bits, Fits}
use Rattle.network_messages.specs.declared.coap_message.CoapMessage.{CoapMessage}
use Rattle.std.proofs.Common.{◌≡◌, ◌+◌, ◌++◌, ◌∷◌, [], Ok, length, refl}
use Rattle.bitstream_io.proofs.CallerLemmas.{RoundTrip, Packs}
use Rattle.bitstream_io.specs.Callers.{Order, High, align, write_sequence}

-- a written value is read back
pub coap_message_goes : (o : Order) (value : CoapMessage) → Fits value
    → RoundTrip (coap_message_decoder o (length value.token + length value.options)) (coap_message_writes o value) (Ok
    value)
coap_message_goes o value fits = (coap_message_format (length value.token + length value.options)).round_trip o value
    (fits, refl)

-- each write is accepted, and the value's size is the number of bits written
pub coap_message_packs : (o : Order) (value : CoapMessage) → Fits value
    → Packs (coap_message_writes o value) (coap_message_size o value)
coap_message_packs o value fits = (coap_message_format (length value.token + length value.options)).packs o value
    (fits, refl)

-- the bits, of which a search is to see no part
pub told : (value : CoapMessage)
    → write_sequence (coap_message_writes High value ++ align ∷ []) 0 ≡ coap_message_bits value
unfolding coap_message_bits
told value = refl
