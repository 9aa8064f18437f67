-- Made by `./format` from formats/packet.fields: edit that file and make this one anew.
-- A written `Packet` is read back, and its number of bits.
use Rattle.bitstream_messages.specs.Packet.{packet_decoder, packet_writes, packet_size, packet_format, packet_bits, Fits}
use Rattle.bitstream_messages.specs.declared.packet.Packet.{Packet}
use Rattle.std.proofs.Common.{◌≡◌, ◌++◌, ◌∷◌, [], Ok, refl}
use Rattle.bitstream_io.proofs.CallerLemmas.{RoundTrip, Packs}
use Rattle.bitstream_io.specs.Callers.{Order, High, align, write_sequence}

-- a written value is read back
pub packet_goes : (o : Order) (value : Packet) → Fits value
    → RoundTrip (packet_decoder o) (packet_writes o value) (Ok value)
packet_goes = packet_format.round_trip

-- each write is accepted, and the value's size is the number of bits written
pub packet_packs : (o : Order) (value : Packet) → Fits value
    → Packs (packet_writes o value) (packet_size o value)
packet_packs = packet_format.packs

-- the bits, of which a search is to see no part
pub told : (value : Packet)
    → write_sequence (packet_writes High value ++ align ∷ []) 0 ≡ packet_bits value
unfolding packet_bits
told value = refl
