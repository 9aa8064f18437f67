-- Made by `./format` from formats/ipv6_header.fields: edit that file and make this one anew.
-- A written `Ipv6Header` is read back, and its number of bits.
use Rattle.protocols.specs.Ipv6Header.{ipv6_header_decoder, ipv6_header_writes, ipv6_header_size, ipv6_header_format, ipv6_header_bits, Fits}
use Rattle.protocols.specs.declared.ipv6_header.Ipv6Header.{Ipv6Header}
use Rattle.std.proofs.Common.{◌≡◌, ◌++◌, ◌∷◌, [], Ok, refl}
use Rattle.bitstream_io.proofs.CallerLemmas.{RoundTrip, Packs}
use Rattle.bitstream_io.specs.Callers.{Order, High, align, write_sequence}

-- a written value is read back
pub ipv6_header_goes : (o : Order) (value : Ipv6Header) → Fits value
    → RoundTrip (ipv6_header_decoder o) (ipv6_header_writes o value) (Ok value)
ipv6_header_goes = ipv6_header_format.round_trip

-- each write is accepted, and the value's size is the number of bits written
pub ipv6_header_packs : (o : Order) (value : Ipv6Header) → Fits value
    → Packs (ipv6_header_writes o value) (ipv6_header_size o value)
ipv6_header_packs = ipv6_header_format.packs

-- the bits, of which a search is to see no part
pub told : (value : Ipv6Header)
    → write_sequence (ipv6_header_writes High value ++ align ∷ []) 0 ≡ ipv6_header_bits value
unfolding ipv6_header_bits
told value = refl
