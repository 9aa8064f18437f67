-- Made by `./format` from formats/arp_packet.fields: edit that file and make this one anew.
-- A written `ArpPacket` is read back, and its number of bits.
use Rattle.protocols.specs.ArpPacket.{arp_packet_decoder, arp_packet_writes, arp_packet_size, arp_packet_format, arp_packet_bits, Fits}
use Rattle.protocols.specs.declared.arp_packet.ArpPacket.{ArpPacket}
use Rattle.std.proofs.Common.{◌≡◌, ◌++◌, ◌∷◌, [], Ok, refl}
use Rattle.bitstream_io.proofs.CallerLemmas.{RoundTrip, Packs}
use Rattle.bitstream_io.specs.Callers.{Order, High, align, write_sequence}

-- a written value is read back
pub arp_packet_goes : (o : Order) (value : ArpPacket) → Fits value
    → RoundTrip (arp_packet_decoder o) (arp_packet_writes o value) (Ok value)
arp_packet_goes = arp_packet_format.round_trip

-- each write is accepted, and the value's size is the number of bits written
pub arp_packet_packs : (o : Order) (value : ArpPacket) → Fits value
    → Packs (arp_packet_writes o value) (arp_packet_size o value)
arp_packet_packs = arp_packet_format.packs

-- the bits, of which a search is to see no part
pub told : (value : ArpPacket)
    → write_sequence (arp_packet_writes High value ++ align ∷ []) 0 ≡ arp_packet_bits value
unfolding arp_packet_bits
told value = refl
