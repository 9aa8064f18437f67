-- Made by `./format` from formats/adts_header.fields: edit that file and make this one anew.
-- A written `AdtsHeader` is read back, and its number of bits.
use Rattle.bitstream_formats.specs.AdtsHeader.{adts_header_decoder, adts_header_writes, adts_header_size, adts_header_format, adts_header_bits, Fits}
use Rattle.bitstream_formats.specs.declared.adts_header.AdtsHeader.{AdtsHeader}
use Rattle.std.proofs.Common.{◌≡◌, ◌++◌, ◌∷◌, [], ℕ, Ok, refl}
use Rattle.bitstream_io.proofs.CallerLemmas.{RoundTrip, Packs}
use Rattle.bitstream_io.specs.Callers.{Order, High, align, write_sequence, AllAccepted}

-- a written value is read back
pub adts_header_goes : (o : Order) (value : AdtsHeader) → Fits value
    → RoundTrip (adts_header_decoder o) (adts_header_writes o value) (Ok value)
adts_header_goes = adts_header_format.round_trip

-- each write is accepted, and the value's size is the number of bits written
pub adts_header_packs : (o : Order) (value : AdtsHeader) → Fits value
    → Packs (adts_header_writes o value) (adts_header_size o value)
adts_header_packs = adts_header_format.packs

-- each field fits if each write is accepted
pub adts_header_fits : (o : Order) (value : AdtsHeader) (at : ℕ) → AllAccepted (adts_header_writes o value) at → Fits
    value
adts_header_fits o value at = adts_header_format.accepted o value at tt

-- the bits, of which a search is to see no part
pub told : (value : AdtsHeader)
    → write_sequence (adts_header_writes High value ++ align ∷ []) 0 ≡ adts_header_bits value
unfolding adts_header_bits
told value = refl
