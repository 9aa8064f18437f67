-- Made by `./format` from formats/flac_start.fields: edit that file and make this one anew.
-- A written `FlacStart` is read back, and its number of bits.
use Rattle.bitstream_callers.specs.FlacStart.{flac_start_decoder, flac_start_writes, flac_start_size, flac_start_format, flac_start_bits, Fits}
use Rattle.bitstream_callers.specs.declared.flac_start.FlacStart.{FlacStart}
use Rattle.std.proofs.Common.{◌≡◌, ◌++◌, ◌∷◌, [], ℕ, Ok, refl}
use Rattle.bitstream_io.proofs.CallerLemmas.{RoundTrip, Packs}
use Rattle.bitstream_io.specs.Callers.{Order, High, align, write_sequence, AllAccepted}

-- a written value is read back
pub flac_start_goes : (o : Order) (value : FlacStart) → Fits value
    → RoundTrip (flac_start_decoder o) (flac_start_writes o value) (Ok value)
flac_start_goes = flac_start_format.round_trip

-- each write is accepted, and the value's size is the number of bits written
pub flac_start_packs : (o : Order) (value : FlacStart) → Fits value
    → Packs (flac_start_writes o value) (flac_start_size o value)
flac_start_packs = flac_start_format.packs

-- each field fits if each write is accepted
pub flac_start_fits : (o : Order) (value : FlacStart) (at : ℕ) → AllAccepted (flac_start_writes o value) at → Fits value
flac_start_fits o value at = flac_start_format.accepted o value at tt

-- the bits, of which a search is to see no part
pub told : (value : FlacStart)
    → write_sequence (flac_start_writes High value ++ align ∷ []) 0 ≡ flac_start_bits value
unfolding flac_start_bits
told value = refl
