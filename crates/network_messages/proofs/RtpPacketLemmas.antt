-- Made by `./format` from formats/rtp_packet.fields: edit that file and make this one anew.
-- A written `RtpPacket` is read back, and its number of bits.
use Rattle.network_messages.specs.RtpPacket.{rtp_packet_decoder, rtp_packet_writes, rtp_packet_size, rtp_packet_format, rtp_packet_bits, Fits}
use Rattle.network_messages.specs.declared.rtp_packet.RtpPacket.{RtpPacket}
use Rattle.std.proofs.Common.{◌≡◌, ◌++◌, ◌∷◌, [], Ok, refl}
use Rattle.bitstream_io.proofs.CallerLemmas.{RoundTrip, Packs}
use Rattle.bitstream_io.specs.Callers.{Order, High, align, write_sequence}

-- a written value is read back
pub rtp_packet_goes : (o : Order) (value : RtpPacket) → Fits value
    → RoundTrip (rtp_packet_decoder o) (rtp_packet_writes o value) (Ok value)
rtp_packet_goes = rtp_packet_format.round_trip

-- each write is accepted, and the value's size is the number of bits written
pub rtp_packet_packs : (o : Order) (value : RtpPacket) → Fits value
    → Packs (rtp_packet_writes o value) (rtp_packet_size o value)
rtp_packet_packs = rtp_packet_format.packs

-- the bits, of which a search is to see no part
pub told : (value : RtpPacket)
    → write_sequence (rtp_packet_writes High value ++ align ∷ []) 0 ≡ rtp_packet_bits value
unfolding rtp_packet_bits
told value = refl
