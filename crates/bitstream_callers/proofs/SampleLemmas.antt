-- Made by `./format` from formats/sample.fields: edit that file and make this one anew.
-- A written `Sample` is read back, and its number of bits.
use Rattle.bitstream_callers.specs.Sample.{sample_decoder, sample_writes, sample_size, sample_format, sample_bits, Fits}
use Rattle.bitstream_callers.specs.declared.sample.Sample.{Sample}
use Rattle.std.proofs.Common.{◌≡◌, ◌++◌, ◌∷◌, [], ℕ, refl}
use Rattle.bitstream_io.proofs.CallerLemmas.{RoundTrip, Packs}
use Rattle.bitstream_io.specs.Callers.{Order, High, align, write_sequence, AllAccepted}

-- a written value is read back
pub sample_goes : (o : Order) (value : Sample) → Fits value
    → RoundTrip (sample_decoder o) (sample_writes o value) value
sample_goes = sample_format.round_trip

-- each write is accepted, and the value's size is the number of bits written
pub sample_packs : (o : Order) (value : Sample) → Fits value
    → Packs (sample_writes o value) (sample_size o value)
sample_packs = sample_format.packs

-- each field fits if each write is accepted
pub sample_fits : (o : Order) (value : Sample) (at : ℕ) → AllAccepted (sample_writes o value) at → Fits value
sample_fits o value at = sample_format.accepted o value at tt

-- the bits, of which a search is to see no part
pub told : (value : Sample)
    → write_sequence (sample_writes High value ++ align ∷ []) 0 ≡ sample_bits value
unfolding sample_bits
told value = refl
