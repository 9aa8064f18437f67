-- Made by `./format` from formats/rtp_header.fields: edit that file and make this one anew.
-- A written `RtpHeader` is read back, and its number of bits.
use Rattle.bitstream_callers.specs.RtpHeader.{rtp_header_decoder, rtp_header_writes, rtp_header_size, rtp_header_format, rtp_header_bits, Fits}
use Rattle.bitstream_callers.specs.declared.rtp_header.RtpHeader.{RtpHeader}
use Rattle.std.proofs.Common.{◌≡◌, ◌++◌, ◌∷◌, [], ℕ, Ok, refl}
use Rattle.bitstream_io.proofs.CallerLemmas.{RoundTrip, Packs}
use Rattle.bitstream_io.specs.Callers.{Order, High, align, write_sequence, AllAccepted}

-- a written value is read back
pub rtp_header_goes : (o : Order) (value : RtpHeader) → Fits value
    → RoundTrip (rtp_header_decoder o) (rtp_header_writes o value) (Ok value)
rtp_header_goes = rtp_header_format.round_trip

-- each write is accepted, and the value's size is the number of bits written
pub rtp_header_packs : (o : Order) (value : RtpHeader) → Fits value
    → Packs (rtp_header_writes o value) (rtp_header_size o value)
rtp_header_packs = rtp_header_format.packs

-- each field fits if each write is accepted
pub rtp_header_fits : (o : Order) (value : RtpHeader) (at : ℕ) → AllAccepted (rtp_header_writes o value) at → Fits value
rtp_header_fits o value at = rtp_header_format.accepted o value at (λ k d below. tt)

-- the bits, of which a search is to see no part
pub told : (value : RtpHeader)
    → write_sequence (rtp_header_writes High value ++ align ∷ []) 0 ≡ rtp_header_bits value
unfolding rtp_header_bits
told value = refl
