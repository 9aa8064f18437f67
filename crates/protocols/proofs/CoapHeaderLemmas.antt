-- Made by `./format` from formats/coap_header.fields: edit that file and make this one anew.
-- A written `CoapHeader` is read back, and its number of bits.
use Rattle.protocols.specs.CoapHeader.{coap_header_decoder, coap_header_writes, coap_header_size, coap_header_format, coap_header_bits, Fits}
use Rattle.protocols.specs.declared.coap_header.CoapHeader.{CoapHeader}
use Rattle.std.proofs.Common.{◌≡◌, ◌++◌, ◌∷◌, [], Ok, refl}
use Rattle.bitstream_io.proofs.CallerLemmas.{RoundTrip, Packs}
use Rattle.bitstream_io.specs.Callers.{Order, High, align, write_sequence}

-- a written value is read back
pub coap_header_goes : (o : Order) (value : CoapHeader) → Fits value
    → RoundTrip (coap_header_decoder o) (coap_header_writes o value) (Ok value)
coap_header_goes = coap_header_format.round_trip

-- each write is accepted, and the value's size is the number of bits written
pub coap_header_packs : (o : Order) (value : CoapHeader) → Fits value
    → Packs (coap_header_writes o value) (coap_header_size o value)
coap_header_packs = coap_header_format.packs

-- the bits, of which a search is to see no part
pub told : (value : CoapHeader)
    → write_sequence (coap_header_writes High value ++ align ∷ []) 0 ≡ coap_header_bits value
unfolding coap_header_bits
told value = refl
