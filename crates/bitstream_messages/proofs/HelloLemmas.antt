-- Made by `./format` from formats/hello.fields: edit that file and make this one anew.
-- A written `Hello` is read back, and its number of bits.
use Rattle.bitstream_messages.specs.Hello.{hello_decoder, hello_writes, hello_size, hello_format, hello_bits, Fits}
use Rattle.bitstream_messages.specs.declared.hello.Hello.{Hello}
use Rattle.std.proofs.Common.{◌≡◌, ◌++◌, ◌∷◌, [], Ok, refl}
use Rattle.bitstream_io.proofs.CallerLemmas.{RoundTrip, Packs}
use Rattle.bitstream_io.specs.Callers.{Order, High, align, write_sequence}

-- a written value is read back
pub hello_goes : (o : Order) (value : Hello) → Fits value
    → RoundTrip (hello_decoder o) (hello_writes o value) (Ok value)
hello_goes = hello_format.round_trip

-- each write is accepted, and the value's size is the number of bits written
pub hello_packs : (o : Order) (value : Hello) → Fits value
    → Packs (hello_writes o value) (hello_size o value)
hello_packs = hello_format.packs

-- the bits, of which a search is to see no part
pub told : (value : Hello)
    → write_sequence (hello_writes High value ++ align ∷ []) 0 ≡ hello_bits value
unfolding hello_bits
told value = refl
