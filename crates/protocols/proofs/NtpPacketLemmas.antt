-- Made by `./format` from formats/ntp_packet.fields: edit that file and make this one anew.
-- A written `NtpPacket` is read back, and its number of bits.
use Rattle.protocols.specs.NtpPacket.{ntp_packet_decoder, ntp_packet_writes, ntp_packet_size, ntp_packet_format, ntp_packet_bits, Fits}
use Rattle.protocols.specs.declared.ntp_packet.NtpPacket.{NtpPacket}
use Rattle.std.proofs.Common.{◌≡◌, ◌++◌, ◌∷◌, [], refl}
use Rattle.bitstream_io.proofs.CallerLemmas.{RoundTrip, Packs}
use Rattle.bitstream_io.specs.Callers.{Order, High, align, write_sequence}

-- a written value is read back
pub ntp_packet_goes : (o : Order) (value : NtpPacket) → Fits value
    → RoundTrip (ntp_packet_decoder o) (ntp_packet_writes o value) value
ntp_packet_goes = ntp_packet_format.round_trip

-- each write is accepted, and the value's size is the number of bits written
pub ntp_packet_packs : (o : Order) (value : NtpPacket) → Fits value
    → Packs (ntp_packet_writes o value) (ntp_packet_size o value)
ntp_packet_packs = ntp_packet_format.packs

-- the bits, of which a search is to see no part
pub told : (value : NtpPacket)
    → write_sequence (ntp_packet_writes High value ++ align ∷ []) 0 ≡ ntp_packet_bits value
unfolding ntp_packet_bits
told value = refl
