-- Made by `./format` from formats/ntp_timestamp.fields: edit that file and make this one anew.
-- A written `NtpTimestamp` is read back, and its number of bits.
use Rattle.protocols.specs.NtpTimestamp.{ntp_timestamp_decoder, ntp_timestamp_writes, ntp_timestamp_size, ntp_timestamp_format, ntp_timestamp_bits, Fits}
use Rattle.protocols.specs.declared.ntp_timestamp.NtpTimestamp.{NtpTimestamp}
use Rattle.std.proofs.Common.{◌≡◌, ◌++◌, ◌∷◌, [], ℕ, refl}
use Rattle.bitstream_io.proofs.CallerLemmas.{RoundTrip, Packs}
use Rattle.bitstream_io.specs.Callers.{Order, High, align, write_sequence, AllAccepted}

-- a written value is read back
pub ntp_timestamp_goes : (o : Order) (value : NtpTimestamp) → Fits value
    → RoundTrip (ntp_timestamp_decoder o) (ntp_timestamp_writes o value) value
ntp_timestamp_goes = ntp_timestamp_format.round_trip

-- each write is accepted, and the value's size is the number of bits written
pub ntp_timestamp_packs : (o : Order) (value : NtpTimestamp) → Fits value
    → Packs (ntp_timestamp_writes o value) (ntp_timestamp_size o value)
ntp_timestamp_packs = ntp_timestamp_format.packs

-- each field fits if each write is accepted
pub ntp_timestamp_fits : (o : Order) (value : NtpTimestamp) (at : ℕ) → AllAccepted (ntp_timestamp_writes o value) at →
    Fits value
ntp_timestamp_fits o value at = ntp_timestamp_format.accepted o value at tt

-- the bits, of which a search is to see no part
pub told : (value : NtpTimestamp)
    → write_sequence (ntp_timestamp_writes High value ++ align ∷ []) 0 ≡ ntp_timestamp_bits value
unfolding ntp_timestamp_bits
told value = refl
