-- Made by `./format` from formats/ogg_header.fields: edit that file and make this one anew.
-- A written `OggHeader` is read back, and its number of bits.
use Rattle.bitstream_formats.specs.OggHeader.{ogg_header_decoder, ogg_header_writes, ogg_header_size, ogg_header_format, ogg_header_bits, Fits}
use Rattle.bitstream_formats.specs.declared.ogg_header.OggHeader.{OggHeader}
use Rattle.std.proofs.Common.{◌≡◌, ◌++◌, ◌∷◌, [], ℕ, Ok, refl}
use Rattle.bitstream_io.proofs.CallerLemmas.{RoundTrip, Packs}
use Rattle.bitstream_io.specs.Callers.{Order, Low, align, write_sequence, AllAccepted}

-- a written value is read back
pub ogg_header_goes : (o : Order) (value : OggHeader) → Fits value
    → RoundTrip (ogg_header_decoder o) (ogg_header_writes o value) (Ok value)
ogg_header_goes = ogg_header_format.round_trip

-- each write is accepted, and the value's size is the number of bits written
pub ogg_header_packs : (o : Order) (value : OggHeader) → Fits value
    → Packs (ogg_header_writes o value) (ogg_header_size o value)
ogg_header_packs = ogg_header_format.packs

-- each field fits if each write is accepted
pub ogg_header_fits : (o : Order) (value : OggHeader) (at : ℕ) → AllAccepted (ogg_header_writes o value) at → Fits value
ogg_header_fits o value at = ogg_header_format.accepted o value at tt

-- the bits, of which a search is to see no part
pub told : (value : OggHeader)
    → write_sequence (ogg_header_writes Low value ++ align ∷ []) 0 ≡ ogg_header_bits value
unfolding ogg_header_bits
told value = refl
