-- Made by `./format` from formats/ipv4_datagram.fields: edit that file and make this one anew.
-- A written `Ipv4Datagram` is read back, and its number of bits.
use Rattle.bitstream_messages.specs.Ipv4Datagram.{ipv4_datagram_decoder, ipv4_datagram_writes, ipv4_datagram_size, ipv4_datagram_format, ipv4_datagram_bits, Fits}
use Rattle.bitstream_messages.specs.declared.ipv4_datagram.Ipv4Datagram.{Ipv4Datagram}
use Rattle.std.proofs.Common.{◌≡◌, ◌++◌, ◌∷◌, [], Ok, refl}
use Rattle.bitstream_io.proofs.CallerLemmas.{RoundTrip, Packs}
use Rattle.bitstream_io.specs.Callers.{Order, High, align, write_sequence}

-- a written value is read back
pub ipv4_datagram_goes : (o : Order) (value : Ipv4Datagram) → Fits value
    → RoundTrip (ipv4_datagram_decoder o) (ipv4_datagram_writes o value) (Ok value)
ipv4_datagram_goes = ipv4_datagram_format.round_trip

-- each write is accepted, and the value's size is the number of bits written
pub ipv4_datagram_packs : (o : Order) (value : Ipv4Datagram) → Fits value
    → Packs (ipv4_datagram_writes o value) (ipv4_datagram_size o value)
ipv4_datagram_packs = ipv4_datagram_format.packs

-- the bits, of which a search is to see no part
pub told : (value : Ipv4Datagram)
    → write_sequence (ipv4_datagram_writes High value ++ align ∷ []) 0 ≡ ipv4_datagram_bits value
unfolding ipv4_datagram_bits
told value = refl
