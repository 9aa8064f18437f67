-- Made by `./format` from formats/rtp_extension.fields: edit that file and make this one anew.
-- A written `RtpExtension` is read back, and its number of bits.
use Rattle.network_messages.specs.RtpExtension.{rtp_extension_decoder, rtp_extension_writes, rtp_extension_size, rtp_extension_format, rtp_extension_bits, Fits}
use Rattle.network_messages.specs.declared.rtp_extension.RtpExtension.{RtpExtension}
use Rattle.std.proofs.Common.{◌≡◌, ◌++◌, ◌∷◌, [], Ok, refl}
use Rattle.bitstream_io.proofs.CallerLemmas.{RoundTrip, Packs}
use Rattle.bitstream_io.specs.Callers.{Order, High, align, write_sequence}

-- a written value is read back
pub rtp_extension_goes : (o : Order) (value : RtpExtension) → Fits value
    → RoundTrip (rtp_extension_decoder o) (rtp_extension_writes o value) (Ok value)
rtp_extension_goes = rtp_extension_format.round_trip

-- each write is accepted, and the value's size is the number of bits written
pub rtp_extension_packs : (o : Order) (value : RtpExtension) → Fits value
    → Packs (rtp_extension_writes o value) (rtp_extension_size o value)
rtp_extension_packs = rtp_extension_format.packs

-- the bits, of which a search is to see no part
pub told : (value : RtpExtension)
    → write_sequence (rtp_extension_writes High value ++ align ∷ []) 0 ≡ rtp_extension_bits value
unfolding rtp_extension_bits
told value = refl
