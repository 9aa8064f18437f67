-- Made by `./format` from formats/log.fields: edit that file and make this one anew.
-- A written `Log` is read back, and its number of bits.
use Rattle.bitstream_messages.specs.Log.{log_decoder, log_writes, log_size, log_format, log_bits, Fits}
use Rattle.bitstream_messages.specs.declared.log.Log.{Log}
use Rattle.std.proofs.Common.{◌≡◌, ◌++◌, ◌∷◌, [], Ok, refl}
use Rattle.bitstream_io.proofs.CallerLemmas.{RoundTrip, Packs}
use Rattle.bitstream_io.specs.Callers.{Order, High, align, write_sequence}

-- a written value is read back
pub log_goes : (o : Order) (value : Log) → Fits value
    → RoundTrip (log_decoder o) (log_writes o value) (Ok value)
log_goes = log_format.round_trip

-- each write is accepted, and the value's size is the number of bits written
pub log_packs : (o : Order) (value : Log) → Fits value
    → Packs (log_writes o value) (log_size o value)
log_packs = log_format.packs

-- the bits, of which a search is to see no part
pub told : (value : Log)
    → write_sequence (log_writes High value ++ align ∷ []) 0 ≡ log_bits value
unfolding log_bits
told value = refl
