-- Made by `./format` from formats/mp3_header.fields: edit that file and make this one anew.
-- A written `Mp3Header` is read back, and its number of bits.
use Rattle.protocols.specs.Mp3Header.{mp3_header_decoder, mp3_header_writes, mp3_header_size, mp3_header_format, mp3_header_bits, Fits}
use Rattle.protocols.specs.declared.mp3_header.Mp3Header.{Mp3Header}
use Rattle.std.proofs.Common.{◌≡◌, ◌++◌, ◌∷◌, [], ℕ, Ok, refl}
use Rattle.bitstream_io.proofs.CallerLemmas.{RoundTrip, Packs}
use Rattle.bitstream_io.specs.Callers.{Order, High, align, write_sequence, AllAccepted}

-- a written value is read back
pub mp3_header_goes : (o : Order) (value : Mp3Header) → Fits value
    → RoundTrip (mp3_header_decoder o) (mp3_header_writes o value) (Ok value)
mp3_header_goes = mp3_header_format.round_trip

-- each write is accepted, and the value's size is the number of bits written
pub mp3_header_packs : (o : Order) (value : Mp3Header) → Fits value
    → Packs (mp3_header_writes o value) (mp3_header_size o value)
mp3_header_packs = mp3_header_format.packs

-- each field fits if each write is accepted
pub mp3_header_fits : (o : Order) (value : Mp3Header) (at : ℕ) → AllAccepted (mp3_header_writes o value) at → Fits value
mp3_header_fits o value at = mp3_header_format.accepted o value at tt

-- the bits, of which a search is to see no part
pub told : (value : Mp3Header)
    → write_sequence (mp3_header_writes High value ++ align ∷ []) 0 ≡ mp3_header_bits value
unfolding mp3_header_bits
told value = refl
