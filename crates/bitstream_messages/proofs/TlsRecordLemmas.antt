-- Made by `./format` from formats/tls_record.fields: edit that file and make this one anew.
-- A written `TlsRecord` is read back, and its number of bits.
use Rattle.bitstream_messages.specs.TlsRecord.{tls_record_decoder, tls_record_writes, tls_record_size, tls_record_format, tls_record_bits, Fits}
use Rattle.bitstream_messages.specs.declared.tls_record.TlsRecord.{TlsRecord}
use Rattle.std.proofs.Common.{◌≡◌, ◌++◌, ◌∷◌, [], Ok, refl}
use Rattle.bitstream_io.proofs.CallerLemmas.{RoundTrip, Packs}
use Rattle.bitstream_io.specs.Callers.{Order, High, align, write_sequence}

-- a written value is read back
pub tls_record_goes : (o : Order) (value : TlsRecord) → Fits value
    → RoundTrip (tls_record_decoder o) (tls_record_writes o value) (Ok value)
tls_record_goes = tls_record_format.round_trip

-- each write is accepted, and the value's size is the number of bits written
pub tls_record_packs : (o : Order) (value : TlsRecord) → Fits value
    → Packs (tls_record_writes o value) (tls_record_size o value)
tls_record_packs = tls_record_format.packs

-- the bits, of which a search is to see no part
pub told : (value : TlsRecord)
    → write_sequence (tls_record_writes High value ++ align ∷ []) 0 ≡ tls_record_bits value
unfolding tls_record_bits
told value = refl
