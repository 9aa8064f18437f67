-- Made by `./format` from formats/primary_header.fields: edit that file and make this one anew.
-- A written `PrimaryHeader` is read back, and its number of bits.
use Rattle.bitstream_callers.specs.PrimaryHeader.{primary_header_decoder, primary_header_writes, primary_header_size, primary_header_format, primary_header_bits, Fits}
use Rattle.bitstream_callers.specs.declared.primary_header.PrimaryHeader.{PrimaryHeader}
use Rattle.std.proofs.Common.{◌≡◌, ◌++◌, ◌∷◌, [], ℕ, Ok, refl}
use Rattle.bitstream_io.proofs.CallerLemmas.{RoundTrip, Packs}
use Rattle.bitstream_io.specs.Callers.{Order, High, align, write_sequence, AllAccepted}

-- a written value is read back
pub primary_header_goes : (o : Order) (value : PrimaryHeader) → Fits value
    → RoundTrip (primary_header_decoder o) (primary_header_writes o value) (Ok value)
primary_header_goes = primary_header_format.round_trip

-- each write is accepted, and the value's size is the number of bits written
pub primary_header_packs : (o : Order) (value : PrimaryHeader) → Fits value
    → Packs (primary_header_writes o value) (primary_header_size o value)
primary_header_packs = primary_header_format.packs

-- each field fits if each write is accepted
pub primary_header_fits : (o : Order) (value : PrimaryHeader) (at : ℕ) → AllAccepted (primary_header_writes o value) at
    → Fits value
primary_header_fits o value at = primary_header_format.accepted o value at tt

-- the bits, of which a search is to see no part
pub told : (value : PrimaryHeader)
    → write_sequence (primary_header_writes High value ++ align ∷ []) 0 ≡ primary_header_bits value
unfolding primary_header_bits
told value = refl
