-- Made by `./format` from formats/client_hello.fields: edit that file and make this one anew.
-- A written `ClientHello` is read back, and its number of bits.
use Rattle.bitstream_callers.specs.ClientHello.{client_hello_decoder, client_hello_writes, client_hello_size, client_hello_format, client_hello_bits, Fits}
use Rattle.bitstream_callers.specs.declared.client_hello.ClientHello.{ClientHello}
use Rattle.std.proofs.Common.{◌≡◌, ◌++◌, ◌∷◌, [], Ok, refl}
use Rattle.bitstream_io.proofs.CallerLemmas.{RoundTrip, Packs}
use Rattle.bitstream_io.specs.Callers.{Order, High, align, write_sequence}

-- a written value is read back
pub client_hello_goes : (o : Order) (value : ClientHello) → Fits value
    → RoundTrip (client_hello_decoder o) (client_hello_writes o value) (Ok value)
client_hello_goes = client_hello_format.round_trip

-- each write is accepted, and the value's size is the number of bits written
pub client_hello_packs : (o : Order) (value : ClientHello) → Fits value
    → Packs (client_hello_writes o value) (client_hello_size o value)
client_hello_packs = client_hello_format.packs

-- the bits, of which a search is to see no part
pub told : (value : ClientHello)
    → write_sequence (client_hello_writes High value ++ align ∷ []) 0 ≡ client_hello_bits value
unfolding client_hello_bits
told value = refl
