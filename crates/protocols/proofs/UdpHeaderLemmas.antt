-- Made by `./format` from formats/udp_header.fields: edit that file and make this one anew.
-- A written `UdpHeader` is read back, and its number of bits.
use Rattle.protocols.specs.UdpHeader.{udp_header_decoder, udp_header_writes, udp_header_size, udp_header_format, udp_header_bits, Fits}
use Rattle.protocols.specs.declared.udp_header.UdpHeader.{UdpHeader}
use Rattle.std.proofs.Common.{◌≡◌, ◌++◌, ◌∷◌, [], ℕ, refl}
use Rattle.bitstream_io.proofs.CallerLemmas.{RoundTrip, Packs}
use Rattle.bitstream_io.specs.Callers.{Order, High, align, write_sequence, AllAccepted}

-- a written value is read back
pub udp_header_goes : (o : Order) (value : UdpHeader) → Fits value
    → RoundTrip (udp_header_decoder o) (udp_header_writes o value) value
udp_header_goes = udp_header_format.round_trip

-- each write is accepted, and the value's size is the number of bits written
pub udp_header_packs : (o : Order) (value : UdpHeader) → Fits value
    → Packs (udp_header_writes o value) (udp_header_size o value)
udp_header_packs = udp_header_format.packs

-- each field fits if each write is accepted
pub udp_header_fits : (o : Order) (value : UdpHeader) (at : ℕ) → AllAccepted (udp_header_writes o value) at → Fits value
udp_header_fits o value at = udp_header_format.accepted o value at tt

-- the bits, of which a search is to see no part
pub told : (value : UdpHeader)
    → write_sequence (udp_header_writes High value ++ align ∷ []) 0 ≡ udp_header_bits value
unfolding udp_header_bits
told value = refl
