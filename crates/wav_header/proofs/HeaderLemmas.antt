-- Made by `./format` from formats/header.fields: edit that file and make this one anew.
-- A written `Header` is read back, and its number of bits.
use Rattle.wav_header.specs.Header.{header_decoder, header_writes, header_size, header_format, header_bits, Fits}
use Rattle.wav_header.specs.declared.header.Header.{Header}
use Rattle.std.proofs.Common.{◌≡◌, ◌++◌, ◌∷◌, [], Ok, refl}
use Rattle.bitstream_io.proofs.CallerLemmas.{RoundTrip, Packs}
use Rattle.bitstream_io.specs.Callers.{Order, Low, align, write_sequence}

-- a written value is read back
pub header_goes : (o : Order) (value : Header) → Fits value
    → RoundTrip (header_decoder o) (header_writes o value) (Ok value)
header_goes = header_format.round_trip

-- each write is accepted, and the value's size is the number of bits written
pub header_packs : (o : Order) (value : Header) → Fits value
    → Packs (header_writes o value) (header_size o value)
header_packs = header_format.packs

-- the bits, of which a search is to see no part
pub told : (value : Header)
    → write_sequence (header_writes Low value ++ align ∷ []) 0 ≡ header_bits value
unfolding header_bits
told value = refl
